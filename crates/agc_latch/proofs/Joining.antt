-- Devices come back one by one.
use Rattle.std.proofs.Common.{◌≡◌, ◌+◌, List, [], ◌∷◌, ◌++◌, All, length, ap, ◌∙◌, arith, length-append, Some}
use Rattle.std.proofs.lemmas.List.Elements.{All-pop}
use Rattle.std.proofs.lemmas.List.Sums.{sum_by_push}
use Rattle.atomic_table.specs.Seated.{TableId}
use Rattle.agc_plan.specs.declared.line.Line.{Line}
use Rattle.agc_latch.specs.Lines.{added, on}
use Rattle.agc_plan.specs.Pulses.{word_of}
use Rattle.agc_latch.specs.Ends.{Posting}
use Rattle.agc_latch.specs.Holders.{Joining}
use Rattle.agc_latch.specs.Accounts.{posted_by}
use Rattle.agc_latch.proofs.Totals.{added_at}

-- `all` devices come to the taker `first`; `rest` are still to come
pub record Gathers (latch : TableId) (first : Joining) (all : List Posting) (now : Joining) (rest : List Posting) : Type 0 where
  pub of_latch : All (λ d. d.latch ≡ latch) rest
  pub back : now.back + length rest ≡ first.back + length all
  pub posted : (line : Line) → on line now.posted + posted_by line rest ≡ on line first.posted + posted_by line all
  pub same_latch : now.latch ≡ first.latch
  pub same_taken : now.taken ≡ first.taken
  pub same_takes : now.takes ≡ first.takes
  pub same_given : now.given ≡ first.given

pub gathers_one : (latch : TableId) (first : Joining) (all : List Posting) (now : Joining) (rest left : List Posting) (d : Posting) (next : Joining)
    → Gathers latch first all now rest → rest ≡ left ++ d ∷ []
    → next ≡ record now { posted = added now.posted d.posted; back = now.back + 1 }
    → Gathers latch first all next left
gathers_one latch first all now rest left d next g is e =
    let fewer = ap (λ (ds : List Posting). length ds) is ∙ length-append left (d ∷ []) in record {
      of_latch = (All-pop (λ (d : Posting). d.latch ≡ latch) rest left (Some d) is g.of_latch).0;
      back = let b = g.back in let n = ap (λ (h : Joining). h.back) e in omega arith;
      posted = λ line.
          let p = g.posted line in
          let n : on line next.posted ≡ on line now.posted + on line d.posted =
          ap (λ (h : Joining). on line h.posted) e ∙ added_at now.posted d.posted (word_of line) in
          let s = ap (posted_by line) is ∙ sum_by_push (λ (d : Posting). on line d.posted) left d in omega arith;
      same_latch = ap (λ (h : Joining). h.latch) e ∙ g.same_latch;
      same_taken = ap (λ (h : Joining). h.taken) e ∙ g.same_taken;
      same_takes = ap (λ (h : Joining). h.takes) e ∙ g.same_takes;
      same_given = ap (λ (h : Joining). h.given) e ∙ g.same_given;
    }
