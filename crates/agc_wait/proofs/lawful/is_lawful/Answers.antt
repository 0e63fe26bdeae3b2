use Rattle.std.proofs.Common.{◌≡◌, length, refl}
use Rattle.agc_wait.specs.Table.{waits_of}
use Rattle.agc_wait.proofs.Whole.{whole, parts_of}
use Rattle.agc_wait.proofs.lawful.is_lawful.Goals as goal

pub returns : goal.returns
returns c =
    let count : c.count_tasks-count.result ≡ length (waits_of c.args.e.now) = c.count_tasks-count.ensures.count in (
      λ blank. whole c.args.e.now c.count_tasks-count.result count (record {
        are_words = c.if-not-are_words.ensures.0 refl;
        counter = c.if-not-is_counter.ensures.0 refl;
        tasks = c.if-not-are_tasks.ensures.0 refl;
        blank = c.is_blank_behind.ensures.0 blank;
      }),
      λ lawful. c.is_blank_behind.ensures.1 (parts_of c.args.e.now c.count_tasks-count.result count lawful).blank,
    )

pub returns-then-not-are_words : goal.returns-then-not-are_words
returns-then-not-are_words c = (λ no. absurd (cc), λ lawful. c.if-not-are_words.ensures.1 (parts_of c.args.e.now c.count_tasks-count.result c.count_tasks-count.ensures.count lawful).are_words)

pub returns-then-not-is_counter : goal.returns-then-not-is_counter
returns-then-not-is_counter c = (λ no. absurd (cc), λ lawful. c.if-not-is_counter.ensures.1 (parts_of c.args.e.now c.count_tasks-count.result c.count_tasks-count.ensures.count lawful).counter)

pub returns-then-not-are_tasks : goal.returns-then-not-are_tasks
returns-then-not-are_tasks c = (λ no. absurd (cc), λ lawful. c.if-not-are_tasks.ensures.1 (parts_of c.args.e.now c.count_tasks-count.result c.count_tasks-count.ensures.count lawful).tasks)
