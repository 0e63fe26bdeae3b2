-- A core set's words, and the job that they show.
use Rattle.std.proofs.Common.{◌≡◌, ◌≢◌, ℕ, ◌+◌, ◌-◌, ◌/◌, ◌%◌, ◌<◌, ◌≤◌, Bool, true, false, List, length, Option, Some, None, option_map, slice_get, slice_index, refl, sym, ap, ◌∙◌, arith}
use Rattle.std.proofs.lemmas.List.{length-map}
use Rattle.std.proofs.lemmas.Option.{slice_get-map, slice_get-get_or}
use Rattle.agc_word.specs.Layout.{sets_in, set_place, area_of}
use Rattle.agc_word.specs.Words.{complement}
use Rattle.agc_plan.specs.Jobs.{job_in}
use Rattle.agc_exec.specs.Blocks.{block_in}
use Rattle.agc_exec.specs.HeldJob.{HeldJob}
use Rattle.agc_exec.specs.Image.{sets_of, held_by, minus_zero}
use Rattle.agc_exec.specs.Stages.{sign}
use Rattle.agc_exec.specs.Seats.{seen, seats_in}
use Rattle.agc_exec.specs.Sets.{Holds, IsLawful, job_of, job_numbered, slots_of}
use Rattle.agc_exec.specs.declared.seats.Seat.{Seat}
use Rattle.agc_exec.proofs.Decoding.{length-sets}
use Rattle.agc_exec.proofs.Ranks.{at_words, held_by-free, held_by-awake, held_by-asleep}
use Rattle.agc_exec.proofs.Reading.{get-block_in}
use Rattle.agc_exec.proofs.Slots.{job_numbered-at, get_or-slots_from}

pub length-seats : (words : List ℕ) → length (seats_in words) ≡ sets_in words
unfolding seats_in
length-seats words = length-map (sets_of words) (option_map seen) ∙ length-sets words

seat_at : (words : List ℕ) (k : ℕ) → k < sets_in words → slice_get (seats_in words) k ≡ Some (option_map seen (held_by (block_in words k) (slice_index words (set_place k + 11))))
unfolding seats_in
seat_at words k lt =
    let within : k < length (sets_of words) = rw (length-sets words) lt in
    slice_get-map (option_map seen) (sets_of words) k
    ∙ ap (option_map (option_map seen)) (slice_get-get_or (sets_of words) k None within ∙ ap (λ (h : Option HeldJob). Some h) (at_words words k lt))

pub seat_free : (words : List ℕ) (k : ℕ) → k < sets_in words → slice_index words (set_place k + 11) ≡ minus_zero → slice_get (seats_in words) k ≡ Some None
seat_free words k lt free = seat_at words k lt ∙ ap (λ (h : Option HeldJob). Some (option_map seen h)) (held_by-free (block_in words k) _ free)

-- a job in core set k, by its words, its priority word without its sign, and whether it sleeps
pub record IsRead (words : List ℕ) (k urgency : ℕ) (asleep : Bool) (s : Seat) : Type 0 where
  pub number : s.number ≡ slice_index words (set_place k + 0)
  pub at : s.at ≡ slice_index words (set_place k + 8)
  pub priority : s.priority ≡ urgency / 512
  pub asleep_is : s.asleep ≡ asleep
  pub area : s.area ≡ area_of (urgency % 512)

abbrev seat_with : ℕ → ℕ → ℕ → Bool → ℕ → Seat
seat_with number at priority asleep area = record { number = number; at = at; priority = priority; asleep = asleep; area = area }

read_is : (words : List ℕ) (k urgency : ℕ) (asleep : Bool) (s : Seat) → IsRead words k urgency asleep s → seat_with (slice_index (block_in words k) 0) (slice_index (block_in words k) 8) (urgency / 512) asleep (area_of (urgency % 512)) ≡ s
read_is words k urgency asleep s is =
    ap (λ (x : ℕ). seat_with x (slice_index (block_in words k) 8) (urgency / 512) asleep (area_of (urgency % 512))) (get-block_in words k 0 0 (omega arith) ∙ sym is.number)
    ∙ ap (λ (x : ℕ). seat_with s.number x (urgency / 512) asleep (area_of (urgency % 512))) (get-block_in words k 8 0 (omega arith) ∙ sym is.at)
    ∙ ap (λ (x : ℕ). seat_with s.number s.at x asleep (area_of (urgency % 512))) (sym is.priority)
    ∙ ap (λ (x : Bool). seat_with s.number s.at s.priority x (area_of (urgency % 512))) (sym is.asleep_is)
    ∙ ap (λ (x : ℕ). seat_with s.number s.at s.priority s.asleep x) (sym is.area)

pub seat_awake : (words : List ℕ) (k : ℕ) (s : Seat) → k < sets_in words → slice_index words (set_place k + 11) < sign → IsRead words k (slice_index words (set_place k + 11)) false s → slice_get (seats_in words) k ≡ Some (Some s)
seat_awake words k s lt low is =
    seat_at words k lt ∙ ap (λ (h : Option HeldJob). Some (option_map seen h)) (held_by-awake (block_in words k) _ low)
    ∙ ap (λ (x : Seat). Some (Some x)) (read_is words k (slice_index words (set_place k + 11)) false s is)

pub seat_asleep : (words : List ℕ) (k : ℕ) (s : Seat) → k < sets_in words → sign ≤ slice_index words (set_place k + 11) → slice_index words (set_place k + 11) ≢ minus_zero → IsRead words k (complement (slice_index words (set_place k + 11))) true s → slice_get (seats_in words) k ≡ Some (Some s)
seat_asleep words k s lt high some is =
    seat_at words k lt ∙ ap (λ (h : Option HeldJob). Some (option_map seen h)) (held_by-asleep (block_in words k) _ high some)
    ∙ ap (λ (x : Seat). Some (Some x)) (read_is words k (complement (slice_index words (set_place k + 11))) true s is)

-- the job of a core set, found by its number
pub numbered : (sets : List (Option HeldJob)) (i : ℕ) (r : HeldJob) → IsLawful sets → Holds sets i r → job_in (slots_of sets) r.number ≡ Some (job_of r)
numbered sets i r lawful at =
    let low : 1 ≤ r.number = lawful.low i r at in
    let high : r.number ≤ length sets = lawful.high i r at in
    let same : 1 + (r.number - 1) ≡ r.number = omega arith in
    get_or-slots_from (length sets) 1 sets (r.number - 1) (omega arith) ∙ ap (job_numbered sets) same
    ∙ job_numbered-at sets i r r.number refl (λ j s holds is. lawful.distinct j i s r holds at is) at
