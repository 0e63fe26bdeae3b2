-- The latch of a run is settled.
use Rattle.std.proofs.Common.{◌≡◌, ◌==◌, if◌then◌else◌, ℕ, ◌+◌, List, [], ◌∷◌, map, IfSome, Option, Some, arith, refl, sym, ap, subst, ◌∙◌}
use Rattle.std.specs.List.{All, sum_by}
use Rattle.std.proofs.lemmas.List.Elements.{All-cons, All-nil}
use Rattle.std.proofs.lemmas.List.Sums.{sum_by-cons}
use Rattle.atomic_table.specs.Seated.{TableId}
use Rattle.agc_latch.specs.Accounts.{IsOf, LineAccounts, posted_by}
use Rattle.agc_latch.specs.declared.accounts.Settled.{Settled}
use Rattle.agc_plan.specs.declared.line.Line.{Line}
use Rattle.agc_latch.specs.Ends.{Posting}
use Rattle.agc_plan.specs.declared.line.Line.TheVariants.{Timer, Key, Radar}
use Rattle.agc_latch.specs.Lines.{on, zeros}
use Rattle.agc_plan.specs.Pulses.{word_of}
use Rattle.agc_desk.specs.Lending.{Lent}
use Rattle.agc_desk.specs.Keeping.{lent_of}
use Rattle.agc_document.specs.Benches.{Benched}
use Rattle.agc_bench.specs.Sharing.{HaveSettled, posts_of, spent_device}
use Rattle.agc_bench.specs.Threads.{AreSettled}

-- all devices are of the latch
pub all_of : (latch : TableId) (ds : List (Line × ℕ)) → All (λ d. d.latch ≡ latch) (map (spent_device latch) ds)
all_of latch [] = All-nil (λ (d : Posting). d.latch ≡ latch)
all_of latch (d ∷ ds) = All-cons (λ (d : Posting). d.latch ≡ latch) (spent_device latch d) (map (spent_device latch) ds) refl (all_of latch ds)

-- what one posted on a line: all its pulses, where that is its own
posted_on : (line own : Line) (n : ℕ) → on line (posts_of (own, n)) ≡ (if word_of own == word_of line then n else 0)
posted_on Timer Timer n = omega arith
posted_on Timer Key n = refl
posted_on Timer Radar n = refl
posted_on Key Timer n = refl
posted_on Key Key n = omega arith
posted_on Key Radar n = refl
posted_on Radar Timer n = refl
posted_on Radar Key n = refl
posted_on Radar Radar n = omega arith

-- what they posted
posted_all : (latch : TableId) (line : Line) (ds : List (Line × ℕ))
    → posted_by line (map (spent_device latch) ds) ≡ sum_by (λ d. if word_of d.0 == word_of line then d.1 else 0) ds
posted_all latch line [] = refl
posted_all latch line (d ∷ ds) =
    sum_by-cons (λ (p : Posting). on line p.posted) (spent_device latch d) (map (spent_device latch) ds)
    ∙ (ap (λ n. on line (posts_of d) + n) (posted_all latch line ds)
    ∙ (ap (λ n. n + sum_by (λ (p : Line × ℕ). if word_of p.0 == word_of line then p.1 else 0) ds) (posted_on line d.0 d.1)
    ∙ sym (sum_by-cons (λ (p : Line × ℕ). if word_of p.0 == word_of line then p.1 else 0) d ds)))

-- what is known of the accounts where this is lent
pub of_latch : (lines : LineAccounts) (latch : TableId) (given : ℕ) → lent_of lines ≡ record { latch = Some latch; given = given; settled = zeros } → IsOf latch lines.taker
of_latch lines latch given lent =
    subst (λ (o : Option TableId). IfSome o (λ l. l ≡ latch)) (sym (ap (λ (l : Lent). l.latch) lent)) refl

-- what became of the pulses, where these devices are back
pub settled_of : (bench : Benched) (latch : TableId) (back : List Posting) (s : Settled) → back ≡ map (spent_device latch) bench.devices → HaveSettled back s → AreSettled bench s
settled_of bench latch back s are settled = record {
  posted = λ line. settled.posted line ∙ (ap (posted_by line) are ∙ posted_all latch line bench.devices);
  whole = settled.whole;
}
