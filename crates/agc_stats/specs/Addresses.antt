-- The statistics of the lives of an address's jobs, and of all addresses.
use Rattle.std.specs.Prelude.{◌≡◌, ℕ, ◌+◌, ◌-◌, ◌*◌, ◌/◌, ◌==◌, nat_lt, min, Bool, true, false}
use Rattle.std.specs.Prelude.{List, [], ◌∷◌, ◌++◌, map, filter, length, slice_get}
use Rattle.std.specs.Prelude.{if◌then◌else◌, Option, Some, None, is_some}
use Rattle.std.specs.List.{All, count_by, fold, list_any, sum_by}
use Rattle.std.specs.List.Sorted.{IsPermutation}
use Rattle.agc_stats.specs.Eras.{counted}
use Rattle.agc_stats.specs.declared.address_statistics.AddressStatistics.{AddressStatistics}
use Rattle.agc_stats.specs.declared.address_statistics.MeanTimes.{MeanTimes}
use Rattle.agc_stats.specs.declared.live_jobs.LifeEnd.{LifeEnd}
use Rattle.agc_stats.specs.declared.live_jobs.LifeEnd.TheVariants.{Alive, Ended, Lost}
use Rattle.agc_stats.specs.declared.live_jobs.JobLife.{JobLife}

-- whether a life was over like this
abbrev pub is_same : LifeEnd → LifeEnd → Bool
is_same Ended Ended = true
is_same Lost Lost = true
is_same Alive Alive = true
is_same one other = false

abbrev pub is_end : LifeEnd → JobLife → Bool
is_end end life = is_same life.end end

-- a job's response time: from its release to its completion
abbrev pub response_of : JobLife → ℕ
response_of life = life.time - life.job.released

abbrev pub responses_of : List JobLife → List ℕ
responses_of lives = map response_of (filter (is_end Ended) lives)

-- when a job had to be complete, if it has a deadline and was not complete at that instant
abbrev pub missed_by : Option ℕ → JobLife → Option ℕ
missed_by None life = None
missed_by (Some deadline) life =
    let due = counted (life.job.released + deadline) in
    if nat_lt due life.time then Some due else None

-- the earlier of two instants
abbrev pub earliest : Option ℕ → Option ℕ → Option ℕ
earliest None other = other
earliest one None = one
earliest (Some one) (Some other) = Some (min one other)

abbrev pub first_missed : Option ℕ → List JobLife → Option ℕ
first_missed deadline [] = None
first_missed deadline (life ∷ lives) =
    earliest (missed_by deadline life) (first_missed deadline lives)

-- the statistics of an address whose jobs have these lives
pub record IsAddress (lives : List JobLife) (row : AddressStatistics) : Type 0 where
  pub lost_is : row.lost ≡ counted (count_by (is_end Lost) lives)
  pub alive_is : row.alive ≡ counted (count_by (is_end Alive) lives)
  pub preempted_is : row.preempted ≡ counted (sum_by (λ life. life.job.preempted) lives)
  pub computed_is : row.computed ≡ counted (sum_by (λ life. life.job.computed) lives)
  pub responses_are : IsPermutation (responses_of lives) row.responses.items
  pub computed_to_end_is : row.computed_to_end
      ≡ counted (sum_by (λ life. if is_end Ended life then life.job.computed else 0) lives)
  pub slept_to_end_is : row.slept_to_end
      ≡ counted (sum_by (λ life. if is_end Ended life then life.job.slept else 0) lives)
  pub missed_is : row.missed
      ≡ counted (count_by (λ life. is_some (missed_by row.deadline life)) lives)
  pub first_missed_is : row.first_missed ≡ first_missed row.deadline lives

-- the means over the jobs of an address that ended, if one did: of their response times, and of
-- what they computed, slept, and waited in the rest
abbrev pub total : List ℕ → ℕ
total times = counted (sum_by (λ time. time) times)

abbrev pub mean_of : ℕ → ℕ → ℕ → ℕ → MeanTimes
mean_of count responses computed slept = record {
  response = responses / count;
  computed = computed / count;
  waited = ((responses - computed) - slept) / count;
  slept = slept / count;
}

abbrev pub mean_times : AddressStatistics → Option MeanTimes
mean_times row =
    let times = row.responses.items in
    if length times == 0 then None
    else Some (mean_of (length times) (total times) row.computed_to_end row.slept_to_end)

-- of times in order the one of the nearest rank: the first that so many percent of them don't
-- exceed
abbrev pub nearest_rank : ℕ → List ℕ → Option ℕ
nearest_rank percent times =
    slice_get times (counted (counted (length times * percent) + 99) / 100 - 1)

-- each address once, in the order in which the first of its jobs was released
abbrev pub noted : List ℕ → ℕ → List ℕ
noted known at = if list_any (λ a. a == at) known then known else known ++ at ∷ []

abbrev pub addresses : List ℕ → List ℕ
addresses releases = fold noted [] releases

-- how many jobs of an address were released, and its lives
abbrev pub releases_at : ℕ → List ℕ → ℕ
releases_at at releases = count_by (λ a. a == at) releases

abbrev pub lives_at : ℕ → List JobLife → List JobLife
lives_at at lives = filter (λ life. life.job.at == at) lives

-- the row of an address, if jobs were released at these, had these lives, and have these deadlines
pub record IsRow (deadlines : ℕ → Option ℕ) (releases : List ℕ) (lives : List JobLife)
    (row : AddressStatistics) : Type 0 where
  pub released_is : row.released ≡ counted (releases_at row.at releases)
  pub deadline_is : row.deadline ≡ deadlines row.at
  pub lives_are : IsAddress (lives_at row.at lives) row

-- all rows; of another address no job was released, and it has no life
pub record AreRows (deadlines : ℕ → Option ℕ) (releases : List ℕ) (lives : List JobLife)
    (rows : List AddressStatistics) : Type 0 where
  pub addresses_are : map (λ row. row.at) rows ≡ addresses releases
  pub each : All (IsRow deadlines releases lives) rows
  pub others : (at : ℕ) → list_any (λ row. row.at == at) rows ≡ false
      → (releases_at at releases ≡ 0) × (lives_at at lives ≡ [])
