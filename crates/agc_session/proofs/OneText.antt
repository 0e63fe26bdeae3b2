-- All words that a machine hands out have one report, and so a session has one text.
use Rattle.std.proofs.Common.{◌≡◌, ◌≢◌, ◌⊎◌, ℕ, zero, suc, ◌+◌, ◌-◌, ◌/◌, ◌<◌, ◌≤◌, ◌==◌, if◌then◌else◌, Bool, true, false, nat_lt, List, [], ◌∷◌, ◌++◌, Option, Some, None, length, take, drop, codes, slice_index, slice_index_or, get_or, refl, ap, sym, subst, ◌∙◌, inl, inr, arith, length-append, length-take, length-drop}
use Rattle.std.specs.List.{flat_map, range_with_len}
use Rattle.std.specs.Prelude.{replicate}
use Rattle.std.proofs.lemmas.Bool.{cases_lt, cases_eq}
use Rattle.std.proofs.lemmas.Grind.{common_steps, same_number_lists}
use Rattle.std.proofs.lemmas.List.{get_or-map, get_or-take, get_or-drop, get_or_append_left, get_or-append_right, get_or_past, get_or_default, same_lists}
use Rattle.std.proofs.lemmas.List.Concat.{flat_map-cons}
use Rattle.std.proofs.lemmas.Option.{same_Some}
use Rattle.agc_word.specs.Layout as layout
use Rattle.agc_word.specs.Layout.{IsSized, sets_in, set_place, padded, address_of}
use Rattle.agc_plan.specs.declared.request.Request.{Request}
use Rattle.agc_plan.specs.Jobs.{Job, is_owned, best_from}
use Rattle.agc_exec.specs.HeldJob.{HeldJob}
use Rattle.agc_exec.specs.Blocks.{block_in}
use Rattle.agc_exec.specs.Sets.{job_of, job_numbered, slots_of, number_in, entries_of, Holds, IsLawful}
use Rattle.agc_exec.specs.Image.{IsSet, IsTidyBlock, held_of, held_by, record_of, sets_of, jobs_in, newjob_for}
use Rattle.agc_exec.specs.Image as cores
use Rattle.agc_exec.proofs.Slots.{job_numbered-at, get_or-slots_from}
use Rattle.agc_exec.proofs.Decoding.{held_of-fields, held_at, length-sets}
use Rattle.agc_exec.proofs.Reading.{get-block_in, get-blocks_of, length-blocks_of}
use Rattle.agc_exec.proofs.Turning.{block_held}
use Rattle.agc_wait.proofs.OneImage.{Shows-one}
use Rattle.agc_phase.proofs.OneTable.{one_table}
use Rattle.agc_machine.specs.declared.totals.Totals.{Totals}
use Rattle.agc_machine.specs.Image.{IsImage, HandsOut}
use Rattle.agc_machine.specs.Machines.{Machined, plain_of, after_all}
use Rattle.agc_text.specs.Report.{words_at, set_text, set_line, line_text, sets_text, lines_text, report_text}
use Rattle.agc_session.specs.Session.{IsSession, answer_lines}

-- a set's job, by its number and the job of this number
same_job : (r s : HeldJob) → r.number ≡ s.number → job_of r ≡ job_of s → r ≡ s
same_job r s number job =
    built (ap (λ (j : Job). j.at) job) (ap (λ (j : Job). j.bank) job) (ap (λ (j : Job). j.priority) job) (ap (λ (j : Job). j.asleep) job) (ap (λ (j : Job). j.area) job) (ap (λ (j : Job). j.work) job) number
  where
    built : {a a' b b' p p' n n' v v' : ℕ} {s s' : Bool} {w w' : List ℕ} → a ≡ a' → b ≡ b' → p ≡ p' → s ≡ s' → v ≡ v' → w ≡ w' → n ≡ n' → ◌≡◌ {A = HeldJob} (record { number = n; at = a; bank = b; priority = p; asleep = s; area = v; work = w }) (record { number = n'; at = a'; bank = b'; priority = p'; asleep = s'; area = v'; work = w' })
    built ea eb ep es ev ew en = cc

entry_of : (sets : List (Option HeldJob)) (k : ℕ) (o : Option HeldJob) → k < length sets → slice_index_or sets k None ≡ o → get_or (entries_of sets) k 0 ≡ number_in o
entry_of sets k o lt at = get_or-map number_in sets k None 0 lt ∙ ap number_in at

numbered_same : (S T : List (Option HeldJob)) (n : ℕ) → length S ≡ length T → slots_of S ≡ slots_of T → 1 ≤ n → n ≤ length S → job_numbered S n ≡ job_numbered T n
numbered_same S T n len slots low high =
    let here = get_or-slots_from (length S) 1 S (n - 1) (omega arith) in
    let there = get_or-slots_from (length T) 1 T (n - 1) (omega arith) in
    let is : 1 + (n - 1) ≡ n = omega arith in
    subst (λ (m : ℕ). job_numbered S m ≡ job_numbered T m) is (sym here ∙ ap (λ (l : List (Option Job)). slice_index_or l (n - 1) None) slots ∙ there)

-- who holds a set is known by the jobs and the placement
same_held : (S T : List (Option HeldJob)) → IsLawful S → IsLawful T → length S ≡ length T → slots_of S ≡ slots_of T → entries_of S ≡ entries_of T → (k : ℕ) → k < length S → (o p : Option HeldJob) → slice_index_or S k None ≡ o → slice_index_or T k None ≡ p → o ≡ p
same_held S T ls lt len slots entries k inside None None a b = refl
same_held S T ls lt len slots entries k inside None (Some s) a b =
    let here = entry_of S k None inside a in
    let there = entry_of T k (Some s) (omega arith) b in
    let e = ap (λ (l : List ℕ). get_or l k 0) entries in
    let low = lt.low k s b in absurd (omega arith)
same_held S T ls lt len slots entries k inside (Some r) None a b =
    let here = entry_of S k (Some r) inside a in
    let there = entry_of T k None (omega arith) b in
    let e = ap (λ (l : List ℕ). get_or l k 0) entries in
    let low = ls.low k r a in absurd (omega arith)
same_held S T ls lt len slots entries k inside (Some r) (Some s) a b =
    let here = entry_of S k (Some r) inside a in
    let there = entry_of T k (Some s) (omega arith) b in
    let e = ap (λ (l : List ℕ). get_or l k 0) entries in
    let n : r.number ≡ s.number = omega arith in
    let mine : job_numbered S r.number ≡ Some (job_of r) = job_numbered-at S k r r.number refl (λ j t holds same. ls.distinct j k t r holds a same) a in
    let its : job_numbered T r.number ≡ Some (job_of s) = job_numbered-at T k s r.number (sym n) (λ j t holds same. lt.distinct j k t s holds b (same ∙ n)) b in
    let both : Some (job_of r) ≡ Some (job_of s) = sym mine ∙ numbered_same S T r.number len slots (ls.low k r a) (ls.high k r a) ∙ its in
    ap Some (same_job r s n (same_Some (job_of r) (job_of s) both))

-- the words of a held set are known by its job
module _ (u w : List ℕ) (k : ℕ) (r : HeldJob) (su : IsSet u) (sw : IsSet w) (tu : cores.IsTidy u) (tw : cores.IsTidy w) (lu : k < sets_in u) (lw : k < sets_in w) (hu : Holds (sets_of u) k r) (hw : Holds (sets_of w) k r) where
  tidy_at : (v : List ℕ) → cores.IsTidy v → k < sets_in v → IsTidyBlock (block_in v k)
  tidy_at v t lt = let len = length-blocks_of v in subst IsTidyBlock (get-blocks_of v k [] lt) (t k (omega arith))

  fields_are : (v : List ℕ) → IsSet v → Holds (sets_of v) k r → (r.number ≡ slice_index (block_in v k) 0) × (r.at ≡ slice_index (block_in v k) 8) × (r.bank ≡ slice_index (block_in v k) 9) × (r.work ≡ slice_index (block_in v k) 1 ∷ slice_index (block_in v k) 2 ∷ slice_index (block_in v k) 3 ∷ slice_index (block_in v k) 4 ∷ slice_index (block_in v k) 5 ∷ slice_index (block_in v k) 6 ∷ [])
  fields_are v s h = let f = held_of-fields (block_in v k) r (block_held v k r s h).0 in (ap (λ (x : HeldJob). x.number) f, ap (λ (x : HeldJob). x.at) f, ap (λ (x : HeldJob). x.bank) f, ap (λ (x : HeldJob). x.work) f)

  works_same : slice_index (block_in u k) 1 ∷ slice_index (block_in u k) 2 ∷ slice_index (block_in u k) 3 ∷ slice_index (block_in u k) 4 ∷ slice_index (block_in u k) 5 ∷ slice_index (block_in u k) 6 ∷ [] ≡ slice_index (block_in w k) 1 ∷ slice_index (block_in w k) 2 ∷ slice_index (block_in w k) 3 ∷ slice_index (block_in w k) 4 ∷ slice_index (block_in w k) 5 ∷ slice_index (block_in w k) 6 ∷ []
  works_same = sym (fields_are u su hu).3 ∙ (fields_are w sw hw).3

  held_words : (i : ℕ) → i < 12 → slice_index (block_in u k) i ≡ slice_index (block_in w k) i
  held_words zero lt = sym (fields_are u su hu).0 ∙ (fields_are w sw hw).0
  held_words (suc zero) lt = ap (λ (l : List ℕ). slice_index l 0) works_same
  held_words (suc (suc zero)) lt = ap (λ (l : List ℕ). slice_index l 1) works_same
  held_words (suc (suc (suc zero))) lt = ap (λ (l : List ℕ). slice_index l 2) works_same
  held_words (suc (suc (suc (suc zero)))) lt = ap (λ (l : List ℕ). slice_index l 3) works_same
  held_words (suc (suc (suc (suc (suc zero))))) lt = ap (λ (l : List ℕ). slice_index l 4) works_same
  held_words (suc (suc (suc (suc (suc (suc zero)))))) lt = ap (λ (l : List ℕ). slice_index l 5) works_same
  held_words (suc (suc (suc (suc (suc (suc (suc zero))))))) lt = (tidy_at u tu lu r (block_held u k r su hu).0).0 ∙ sym (tidy_at w tw lw r (block_held w k r sw hw).0).0
  held_words (suc (suc (suc (suc (suc (suc (suc (suc zero)))))))) lt = sym (fields_are u su hu).1 ∙ (fields_are w sw hw).1
  held_words (suc (suc (suc (suc (suc (suc (suc (suc (suc zero))))))))) lt = sym (fields_are u su hu).2 ∙ (fields_are w sw hw).2
  held_words (suc (suc (suc (suc (suc (suc (suc (suc (suc (suc zero)))))))))) lt = (tidy_at u tu lu r (block_held u k r su hu).0).1 ∙ sym (tidy_at w tw lw r (block_held w k r sw hw).0).1
  held_words (suc (suc (suc (suc (suc (suc (suc (suc (suc (suc (suc zero))))))))))) lt = (block_held u k r su hu).1.word ∙ sym (block_held w k r sw hw).1.word
  held_words (suc (suc (suc (suc (suc (suc (suc (suc (suc (suc (suc (suc i)))))))))))) lt = absurd (omega arith)

-- lists of words of which so many from a place on are the same
same_slice : (u w : List ℕ) (place count : ℕ) → length u ≡ length w → ((i : ℕ) → i < count → slice_index u (place + i) ≡ slice_index w (place + i)) → words_at place count u ≡ words_at place count w
same_slice u w place count len same =
    same_number_lists (words_at place count u) (words_at place count w) (simp (length-take, length-drop) (rw len refl))
    (λ i lt.
    let few : i < count = within i lt in
    get_or-take count (drop place u) i 0 few ∙ get_or-drop place u i 0 ∙ same i few ∙ sym (get_or-take count (drop place w) i 0 few ∙ get_or-drop place w i 0))
  where
    within : (i : ℕ) → i < length (take count (drop place u)) → i < count
    within i lt = let e = length-take count (drop place u) in omega arith

-- filled up with 00000
same_padded : (u w : List ℕ) (place : ℕ) → length u ≡ length w → slice_index u place ≡ slice_index w place → slice_index (padded u) place ≡ slice_index (padded w) place
same_padded u w place len same = elim (cases_lt place (length u)) [
  | inl lt ↦ get_or_append_left u (replicate (144 - length u) 0) 0 place lt ∙ same ∙ sym (get_or_append_left w (replicate (144 - length w) 0) 0 place (omega arith))
  | inr ge ↦
      get_or-append_right u (replicate (144 - length u) 0) (length u) place 0 refl (omega arith)
      ∙ ap (λ (n : ℕ). get_or (replicate (144 - n) 0) (place - n) 0) len
      ∙ sym (get_or-append_right w (replicate (144 - length w) 0) (length w) place 0 refl (omega arith))
]

-- what a report shows is the same
record ShowsSame (sets : ℕ) (u w : List ℕ) : Type 0 where
  len : length u ≡ length w
  set : (k : ℕ) → k < sets → ((slice_index u (set_place k + 11) ≡ 32767) × (slice_index w (set_place k + 11) ≡ 32767)) ⊎ ((i : ℕ) → i < 12 → slice_index u (set_place k + i) ≡ slice_index w (set_place k + i))
  rest : (place : ℕ) → 84 ≤ place → place < 132 → slice_index u place ≡ slice_index w place

set_free : (block : List ℕ) → slice_index block 11 ≡ 32767 → set_text block ≡ codes " FREE"
set_free block e = rw e refl

last_of : (u : List ℕ) (place : ℕ) → slice_index (words_at place 12 u) 11 ≡ slice_index u (place + 11)
last_of u place = get_or-take 12 (drop place u) 11 0 (omega arith) ∙ get_or-drop place u 11 0

set_same : (sets : ℕ) (u w : List ℕ) → ShowsSame sets u w → (k : ℕ) → k < sets → set_text (words_at (set_place k) 12 u) ≡ set_text (words_at (set_place k) 12 w)
set_same sets u w s k lt = elim (s.set k lt) [
  | inl free ↦ set_free (words_at (set_place k) 12 u) (last_of u (set_place k) ∙ free.0) ∙ sym (set_free (words_at (set_place k) 12 w) (last_of w (set_place k) ∙ free.1))
  | inr all ↦ ap set_text (same_slice u w (set_place k) 12 s.len all)
]

set_line_same : (sets : ℕ) (u w : List ℕ) → ShowsSame sets u w → (k : ℕ) → k < sets → set_line u k ≡ set_line w k
unfolding set_line
set_line_same sets u w s k lt = rw (set_same sets u w s k lt) refl

flat_range : (f g : ℕ → List ℕ) (from count : ℕ) → ((k : ℕ) → k < from + count → f k ≡ g k) → flat_map f (range_with_len from count) ≡ flat_map g (range_with_len from count)
flat_range f g from zero same = refl
flat_range f g from (suc count) same =
    let here = same from (omega arith) in
    let rest = flat_range f g (from + 1) count (λ k lt. same k (omega arith)) in
    let joined : f from ++ flat_map f (range_with_len (from + 1) count) ≡ g from ++ flat_map g (range_with_len (from + 1) count) = cc in
    flat_map-cons f from (range_with_len (from + 1) count) ∙ joined ∙ sym (flat_map-cons g from (range_with_len (from + 1) count))

-- so many words, from a place between the sets
words_same : (sets : ℕ) (u w : List ℕ) → ShowsSame sets u w → (place count : ℕ) → 84 ≤ place → place + count ≤ 132 → words_at place count u ≡ words_at place count w
words_same sets u w s place count from to = same_slice u w place count s.len (λ i lt. s.rest (place + i) (omega arith) (omega arith))

sets_same : (sets : ℕ) (u w : List ℕ) → ShowsSame sets u w → sets_text sets u ≡ sets_text sets w
unfolding sets_text
sets_same sets u w s = flat_range (set_line u) (set_line w) 0 sets (λ k lt. set_line_same sets u w s k (omega arith))

lines_same : (sets : ℕ) (u w : List ℕ) (totals : Totals) → ShowsSame sets u w → lines_text u totals ≡ lines_text w totals
unfolding lines_text line_text
lines_same sets u w totals s =
    let vac = words_same sets u w s layout.use_words 5 (omega arith) (omega arith) in
    let newjob = words_same sets u w s layout.newjob 1 (omega arith) (omega arith) in
    let time3 = words_same sets u w s layout.time3 1 (omega arith) (omega arith) in
    let lst1 = words_same sets u w s layout.lst1 8 (omega arith) (omega arith) in
    let lst2 = words_same sets u w s layout.lst2 18 (omega arith) (omega arith) in
    let phase = words_same sets u w s layout.phase_words 12 (omega arith) (omega arith) in
    let failreg = words_same sets u w s layout.failreg 3 (omega arith) (omega arith) in
    rw (vac, newjob, time3, lst1, lst2, phase, failreg) refl

report_same : (sets : ℕ) (u w : List ℕ) (totals : Totals) → ShowsSame sets u w → report_text sets u totals ≡ report_text sets w totals
report_same sets u w totals s = rw (sets_same sets u w s, lines_same sets u w totals s) refl

padded_same : (sets : ℕ) (u w : List ℕ) → ShowsSame sets u w → ShowsSame sets (padded u) (padded w)
padded_same sets u w s = record {
  len = simp (length-append) (rw s.len refl);
  set = λ k lt. elim (s.set k lt) [
    | inl free ↦ inl (at_free u (set_place k + 11) free.0, at_free w (set_place k + 11) free.1)
    | inr all ↦ inr (λ i few. same_padded u w (set_place k + i) s.len (all i few))
  ];
  rest = λ place from to. same_padded u w place s.len (s.rest place from to);
}
  where
    at_free : (v : List ℕ) (place : ℕ) → slice_index v place ≡ 32767 → slice_index (padded v) place ≡ 32767
    at_free v place e = elim (cases_lt place (length v)) [
      | inl lt ↦ get_or_append_left v (replicate (144 - length v) 0) 0 place lt ∙ e
      | inr ge ↦ let none = get_or_past v place 0 (omega arith) in absurd (omega arith)
    ]

same_size : (u w : List ℕ) → IsSized u → IsSized w → sets_in u ≡ sets_in w → length u ≡ length w
same_size u w (inl a) (inl b) e = a ∙ sym b
same_size u w (inr a) (inr b) e = a ∙ sym b
same_size u w (inl a) (inr b) e = let x : sets_in u ≡ 7 = ap (λ (n : ℕ). (n - 48) / 12) a in let y : sets_in w ≡ 8 = ap (λ (n : ℕ). (n - 48) / 12) b in absurd (omega arith)
same_size u w (inr a) (inl b) e = let x : sets_in u ≡ 8 = ap (λ (n : ℕ). (n - 48) / 12) a in let y : sets_in w ≡ 7 = ap (λ (n : ℕ). (n - 48) / 12) b in absurd (omega arith)

-- a free set's PRIORITY
free_word : (block : List ℕ) → held_of block ≡ None → slice_index block 11 ≡ 32767
unfolding held_of
free_word block e = elim (cases_eq (slice_index block 11) 32767) [
  | inl free ↦ free
  | inr ne ↦ absurd (held_some (slice_index block 11) ne e)
]
  where
    held_some : (v : ℕ) → v ≢ 32767 → held_by block v ≡ None → ⊥
    held_some v ne e =
        let z : (v == 32767) ≡ false = grind (arith, common_steps) in
        elim (cases_lt v 16384) [
          | inl lt ↦ let y : nat_lt v 16384 ≡ true = grind (arith, common_steps) in let no : Some (record_of block v false) ≡ None = rw (z, y) at e in cc
          | inr ge ↦ let y : nat_lt v 16384 ≡ false = grind (arith, common_steps) in let no : Some (record_of block (32767 - v) true) ≡ None = rw (z, y) at e in cc
        ]

module _ (m : Machined) (u w : List ℕ) (iu : IsImage m u) (iw : IsImage m w) where
  count : sets_in u ≡ sets_in w
  count = iu.sets ∙ sym iw.sets

  size : length u ≡ length w
  size = same_size u w iu.lawful.tables.size iw.lawful.tables.size count

  jobs : jobs_in u ≡ jobs_in w
  jobs = iu.stands.jobs ∙ sym iw.stands.jobs

  slots : slots_of (sets_of u) ≡ slots_of (sets_of w)
  slots = ap (λ j. j.slots) jobs

  entries : entries_of (sets_of u) ≡ entries_of (sets_of w)
  entries = iu.placed ∙ sym iw.placed

  lengths : length (sets_of u) ≡ length (sets_of w)
  lengths = length-sets u ∙ count ∙ sym (length-sets w)

  held : (k : ℕ) → k < sets_in u → slice_index_or (sets_of u) k None ≡ slice_index_or (sets_of w) k None
  held k lt =
      let len = length-sets u in
      same_held (sets_of u) (sets_of w) iu.lawful.tables.cores.sets.standing.lawful iw.lawful.tables.cores.sets.standing.lawful lengths slots entries k (omega arith) (slice_index_or (sets_of u) k None) (slice_index_or (sets_of w) k None) refl refl

  set_at : (k : ℕ) → k < sets_in u → (o : Option HeldJob) → slice_index_or (sets_of u) k None ≡ o → ((slice_index u (set_place k + 11) ≡ 32767) × (slice_index w (set_place k + 11) ≡ 32767)) ⊎ ((i : ℕ) → i < 12 → slice_index u (set_place k + i) ≡ slice_index w (set_place k + i))
  set_at k lt None e =
      let there : k < sets_in w = subst (λ (n : ℕ). k < n) count lt in
      inl (sym (get-block_in u k 11 0 (omega arith)) ∙ free_word (block_in u k) (held_at u k None lt ∙ e), sym (get-block_in w k 11 0 (omega arith)) ∙ free_word (block_in w k) (held_at w k None there ∙ sym (held k lt) ∙ e))
  set_at k lt (Some r) e =
      let there : k < sets_in w = subst (λ (n : ℕ). k < n) count lt in
      inr (λ i few. sym (get-block_in u k i 0 few) ∙ held_words u w k r iu.lawful.tables.cores.sets iw.lawful.tables.cores.sets iu.tidy.cores iw.tidy.cores lt there e (sym (held k lt) ∙ e) i few ∙ get-block_in w k i 0 few)

  use_at : (area : ℕ) → 1 ≤ area → area ≤ 5 → slice_index u (layout.use_words + (area - 1)) ≡ slice_index w (layout.use_words + (area - 1))
  use_at area low high =
      iu.lawful.tables.cores.uses area low high
      ∙ ap (λ s. if is_owned area s then 0 else address_of area) slots
      ∙ sym (iw.lawful.tables.cores.uses area low high)

  sets_are : sets_of u ≡ sets_of w
  sets_are = same_lists (sets_of u) (sets_of w) lengths (λ k d lt. let len = length-sets u in get_or_default (sets_of u) k d None lt ∙ held k (omega arith) ∙ get_or_default (sets_of w) k None d (omega (arith, lengths)))

  newjob_at : slice_index u layout.newjob ≡ slice_index w layout.newjob
  newjob_at = iu.lawful.tables.cores.newjob ∙ ap (λ s. newjob_for (best_from 1 (slots_of s)) s) sets_are ∙ sym iw.lawful.tables.cores.newjob

  rest_at : (place : ℕ) → 84 ≤ place → place < 132 → slice_index u place ≡ slice_index w place
  rest_at place from to = elim (cases_lt place 89) [
    | inl lt ↦
        let is : layout.use_words + ((place - 83) - 1) ≡ place = omega arith in
        subst (λ (p : ℕ). slice_index u p ≡ slice_index w p) is (use_at (place - 83) (omega arith) (omega arith))
    | inr ge ↦ elim (cases_lt place 90) [
      | inl lt ↦ let is : layout.newjob ≡ place = omega arith in subst (λ (p : ℕ). slice_index u p ≡ slice_index w p) is newjob_at
      | inr ge' ↦ elim (cases_lt place 117) [
        | inl lt ↦ Shows-one (plain_of m).work.agenda u w (record { lawful = iu.lawful.tables.waits; tidy = iu.tidy.waits; stands = iu.stands.tasks }) (record { lawful = iw.lawful.tables.waits; tidy = iw.tidy.waits; stands = iw.stands.tasks }) place (omega arith, omega arith)
        | inr ge'' ↦ one_table u w (record { lawful = iu.lawful.tables.phases; lawful_too = iw.lawful.tables.phases; same = iu.stands.base ∙ sym iw.stands.base }) place (omega arith) (omega arith)
      ]
    ]
  ]

  shows_same : ShowsSame m.plan.sets u w
  shows_same = record { len = size; set = λ k lt. let lt' : k < sets_in u = subst (λ (n : ℕ). k < n) (sym iu.sets) lt in set_at k lt' (slice_index_or (sets_of u) k None) refl; rest = rest_at }

pub one_report : (m : Machined) (these those : List ℕ) → HandsOut m these → HandsOut m those → report_text m.plan.sets these m.totals ≡ report_text m.plan.sets those m.totals
one_report m these those a b =
    let same = report_same m.plan.sets (padded a.own) (padded b.own) m.totals (padded_same m.plan.sets a.own b.own (shows_same m a.own b.own a.image b.image)) in
    ap (λ l. report_text m.plan.sets l m.totals) a.all ∙ same ∙ ap (λ l. report_text m.plan.sets l m.totals) (sym b.all)

-- what is written of a session is one text
pub one_text : (machine : Machined) (requests : List Request) (these those : List ℕ) → IsSession machine requests these → IsSession machine requests those → these ≡ those
one_text machine requests these those a b =
    a.text_is ∙ ap (λ l. answer_lines machine requests ++ l) (one_report (after_all machine requests) a.words b.words a.words_are b.words_are) ∙ sym b.text_is
