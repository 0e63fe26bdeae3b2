-- Ledgers, as the desk holds them, and what shares were told.
use Rattle.std.specs.Prelude.{ℕ, List, sum_by}
use Rattle.std.specs.List.{fold}
use Rattle.agc_machine.specs.declared.totals.Totals.{Totals}
use Rattle.agc_machine.specs.Told.{add, nothing, told}
use Rattle.agc_desk.specs.declared.ties.Call.{Call}
use Rattle.agc_desk.specs.History.{Holder}

-- five ledgers, one for each number of the totals, with as many parts left of each
pub record Ledgered : Type 0 where
  pub total : Totals
  pub left : ℕ
  pub back : Totals

-- the totals of the answers to these calls
unfoldable pub told_in : List Call → Totals
told_in heard = fold (λ total call. add total (told call.answer.outcome)) nothing heard

-- the totals that the holders of all these shares counted together
abbrev pub told_to : List Holder → Totals
told_to shares = record {
  served = sum_by (λ (s : Holder). (told_in s.heard).served) shares;
  a1201 = sum_by (λ (s : Holder). (told_in s.heard).a1201) shares;
  a1202 = sum_by (λ (s : Holder). (told_in s.heard).a1202) shares;
  a1203 = sum_by (λ (s : Holder). (told_in s.heard).a1203) shares;
  restarts = sum_by (λ (s : Holder). (told_in s.heard).restarts) shares;
}
