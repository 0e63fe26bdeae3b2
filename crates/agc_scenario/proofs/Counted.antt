-- Events that are counted from those above them: their texts, and what is counted twice.
use Rattle.std.proofs.Common.{◌≡◌, ◌∙◌, ◌++◌, ◌<◌, List, [], ◌∷◌, ℕ, zero, suc, map, take, drop, set, get_or, length, refl, sym, ap, subst, arith, append-nil, append_assoc}
use Rattle.std.specs.List.{AllByRecursion}
use Rattle.agc_scenario.specs.Texts.{EventTexts}
use Rattle.agc_scenario.specs.Scenarios.{TimedEvent, IsTimedEvent, with_bases, with_base, event_texts}

counted_spell : (above events : List TimedEvent) → map event_texts (with_bases above events) ≡ map event_texts events
counted_spell above [] = refl
counted_spell above (e ∷ es) = ap (λ ts. event_texts e ∷ ts) (counted_spell (above ++ with_base above e ∷ []) es)

counted_again : (above events : List TimedEvent) → with_bases above (with_bases above events) ≡ with_bases above events
counted_again above [] = refl
counted_again above (e ∷ es) = ap (λ cs. with_base above e ∷ cs) (counted_again (above ++ with_base above e ∷ []) es)

counted_lawful : (above events : List TimedEvent) → AllByRecursion IsTimedEvent events → AllByRecursion IsTimedEvent (with_bases above events)
counted_lawful above [] h = tt
counted_lawful above (e ∷ es) h = (record { requests = h.0.requests; after = h.0.after; name = h.0.name }, counted_lawful (above ++ with_base above e ∷ []) es h.1)

-- the event at a place is counted, after all before it
step_above : (above events : List TimedEvent) (k : ℕ) (was is : TimedEvent) → k < length events → was ≡ get_or events k was → is ≡ with_base (above ++ take k events) was → take (suc k) (set events k is) ++ with_bases (above ++ take (suc k) (set events k is)) (drop (suc k) (set events k is)) ≡ take k events ++ with_bases (above ++ take k events) (drop k events)
step_above above [] k was is l at e = absurd (omega (arith, l))
step_above above (x ∷ xs) zero was is l at e =
    let same : with_base above x ≡ is = ap (with_base above) (sym at) ∙ ap (λ (a : List TimedEvent). with_base a was) (sym (append-nil above)) ∙ sym e in
    subst (λ (a : List TimedEvent). is ∷ with_bases (above ++ is ∷ []) xs ≡ with_bases a (x ∷ xs)) (sym (append-nil above)) (ap (λ (c : TimedEvent). c ∷ with_bases (above ++ c ∷ []) xs) (sym same))
step_above above (x ∷ xs) (suc k) was is l at e =
    let moved : (ys : List TimedEvent) → (above ++ x ∷ []) ++ ys ≡ above ++ x ∷ ys = λ ys. append_assoc above (x ∷ []) ys in
    let rest : take (suc k) (set xs k is) ++ with_bases ((above ++ x ∷ []) ++ take (suc k) (set xs k is)) (drop (suc k) (set xs k is)) ≡ take k xs ++ with_bases ((above ++ x ∷ []) ++ take k xs) (drop k xs) = step_above (above ++ x ∷ []) xs k was is (omega (arith, l)) at (e ∙ ap (λ (a : List TimedEvent). with_base a was) (sym (moved (take k xs)))) in
    ap (λ (zs : List TimedEvent). x ∷ zs) (ap (λ (a : List TimedEvent). take (suc k) (set xs k is) ++ with_bases a (drop (suc k) (set xs k is))) (sym (moved (take (suc k) (set xs k is)))) ∙ rest ∙ ap (λ (a : List TimedEvent). take k xs ++ with_bases a (drop k xs)) (moved (take k xs)))

pub count_step : (events : List TimedEvent) (k : ℕ) (was is : TimedEvent) → k < length events → was ≡ get_or events k was → is ≡ with_base (take k events) was → take (suc k) (set events k is) ++ with_bases (take (suc k) (set events k is)) (drop (suc k) (set events k is)) ≡ take k events ++ with_bases (take k events) (drop k events)
count_step events k was is l at e = step_above [] events k was is l at e

pub counted_events : (texts : List EventTexts) (events : List TimedEvent) → AllByRecursion IsTimedEvent events → texts ≡ map event_texts events → AllByRecursion IsTimedEvent (with_bases [] events) × (texts ≡ map event_texts (with_bases [] events)) × (with_bases [] (with_bases [] events) ≡ with_bases [] events)
counted_events texts events h is = (counted_lawful [] events h, is ∙ sym (counted_spell [] events), counted_again [] events)
