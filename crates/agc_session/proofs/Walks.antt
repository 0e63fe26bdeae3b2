-- What is left of a walk: the requests that are still to be asked.
use Rattle.std.proofs.Common.{◌≡◌, ℕ, List, [], ◌∷◌, ◌++◌, Option, subst, refl, sym, ap, ◌∙◌, append_assoc, append-nil, Result, Ok, Err}
use Rattle.std.specs.Prelude.{IsErr}
use Rattle.std.specs.List.{fold}
use Rattle.std.proofs.lemmas.List.Sums.{fold-append}
use Rattle.agc_plan.specs.declared.request.Request.{Request}
use Rattle.agc_session.specs.Walks.{AllWritten, AsksInOrder, StopsIn, Writing}

-- of a walk from a state and contents on, these requests are left, those before them were asked
pub record IsLeft (S : Type 0) (next : S → Request → S) (writes : Writing S) (start : S) (all : List Request) (old : Option (List ℕ)) (here : S) (now : Option (List ℕ)) (rest : List Request) : Type 0 where
  pub asked : List Request
  pub whole : all ≡ asked ++ rest
  pub here_is : here ≡ fold next start asked
  pub end_with_report : AllWritten next writes start asked old now

pub all_left : {S : Type 0} → (next : S → Request → S) (writes : Writing S) (start : S) (rs : List Request) (o : Option (List ℕ)) → IsLeft S next writes start rs o start o rs
unfolding AllWritten
all_left next writes start rs o = record { asked = []; whole = refl; here_is = refl; end_with_report = refl }

written_append : {S : Type 0} → (next : S → Request → S) (writes : Writing S) (s : S) (a b : List Request) (o w n : Option (List ℕ)) → AllWritten next writes s a o w → AllWritten next writes (fold next s a) b w n → AllWritten next writes s (a ++ b) o n
unfolding AllWritten
written_append next writes s [] b o w n is more = subst (λ (x : Option (List ℕ)). AllWritten next writes s b x n) is more
written_append next writes s (r ∷ a) b o w n h more = (h.0, h.1, written_append next writes (next s r) a b h.0 w n h.2 more)

-- what was asked wrote, and these after them
told_more : {S : Type 0} → {s : S} → (next : S → Request → S) (writes : Writing S) (start : S) (o w n : Option (List ℕ)) (asked a : List Request) → s ≡ fold next start asked → AllWritten next writes start asked o w → AllWritten next writes s a w n → AllWritten next writes start (asked ++ a) o n
told_more {S} {s} next writes start o w n asked a is end_with_report more = written_append next writes start asked a o w n end_with_report (subst (λ (u : S). AllWritten next writes u a w n) is more)

-- they are asked after the others
asked_more : {S : Type 0} → {s t : S} → (next : S → Request → S) (start : S) (asked a : List Request) → s ≡ fold next start asked → t ≡ fold next s a → t ≡ fold next start (asked ++ a)
asked_more {S} {s} {t} next start asked a is to = to ∙ ap (λ (u : S). fold next u a) is ∙ sym (fold-append next start asked a)

pub left_as : {S : Type 0} → {next : S → Request → S} → {writes : Writing S} → {start s : S} → {all a b : List Request} → {o w : Option (List ℕ)} → a ≡ b → IsLeft S next writes start all o s w a → IsLeft S next writes start all o s w b
left_as {next} {writes} {start} {s} {all} {a} {b} {o} {w} is left = subst (λ (rs : List Request). IsLeft _ next writes start all o s w rs) is left

-- some requests were asked
pub some_asked : {S : Type 0} → {next : S → Request → S} → {writes : Writing S} → {start s t : S} → {all : List Request} → {o w n : Option (List ℕ)} → (a rest : List Request) → IsLeft S next writes start all o s w (a ++ rest) → (t ≡ fold next s a) × AllWritten next writes s a w n → IsLeft S next writes start all o t n rest
some_asked {S} {next} {writes} {start} {s} {t} {all} {o} {w} {n} a rest left done = record {
  asked = left.asked ++ a;
  whole = left.whole ∙ sym (append_assoc left.asked a rest);
  here_is = asked_more next start left.asked a left.here_is done.0;
  end_with_report = told_more next writes start o w n left.asked a left.here_is left.end_with_report done.1;
}

-- they were asked, up to where the walk stops
some_stopped : {S : Type 0} → {next : S → Request → S} → {writes stops : Writing S} → {start s t : S} → {all : List Request} → {o w n : Option (List ℕ)} → (a rest : List Request) → IsLeft S next writes start all o s w (a ++ rest) → StopsIn next writes stops s a t w n → StopsIn next writes stops start all t o n
some_stopped {S} {next} {writes} {stops} {start} {s} {t} {all} {o} {w} {n} a rest left stop =
    let here : fold next s stop.before ≡ fold next start (left.asked ++ stop.before) = asked_more next start left.asked stop.before left.here_is refl in
    let inner : a ++ rest ≡ stop.before ++ stop.last ∷ (stop.after ++ rest) = ap (λ (rs : List Request). rs ++ rest) stop.whole ∙ append_assoc stop.before (stop.last ∷ stop.after) rest in
    record {
      before = left.asked ++ stop.before;
      last = stop.last;
      after = stop.after ++ rest;
      whole = left.whole ∙ ap (λ (rs : List Request). left.asked ++ rs) inner ∙ sym (append_assoc left.asked stop.before (stop.last ∷ (stop.after ++ rest)));
      end_is = stop.end_is ∙ ap (λ (u : S). next u stop.last) here;
      between = stop.between;
      end_with_report = told_more next writes start o w stop.between left.asked stop.before left.here_is left.end_with_report stop.end_with_report;
      front = subst (λ (u : S). stops u stop.last stop.between n) here stop.front;
    }

pub walk_stopped : {S T E : Type 0} → {next : S → Request → S} → {writes stops : Writing S} → {start s t : S} → {all : List Request} → {o w n : Option (List ℕ)} → (a rest : List Request) (result : Result T E) → IsLeft S next writes start all o s w (a ++ rest) → StopsIn next writes stops s a t w n → IsErr result → AsksInOrder next writes stops start all t o n result
walk_stopped a rest (Ok x) left stop is = absurd cc
walk_stopped a rest (Err x) left stop is = some_stopped a rest left stop

-- nothing is left
pub walk_done : {S : Type 0} → {next : S → Request → S} → {writes : Writing S} → {start s : S} → {all : List Request} → {o w : Option (List ℕ)} → IsLeft S next writes start all o s w [] → (s ≡ fold next start all) × AllWritten next writes start all o w
walk_done {S} {next} {writes} {start} {s} {all} {o} {w} left =
    let is : left.asked ≡ all = sym (left.whole ∙ append-nil left.asked) in
    (left.here_is ∙ ap (fold next start) is, subst (λ (rs : List Request). AllWritten next writes start rs o w) is left.end_with_report)

-- the next one is asked
pub one_asked : {S : Type 0} → {next : S → Request → S} → {writes : Writing S} → {start s t : S} → {all rest : List Request} → {o w n : Option (List ℕ)} → {q : Request} → IsLeft S next writes start all o s w (q ∷ rest) → t ≡ next s q → writes s q w n → IsLeft S next writes start all o t n rest
unfolding AllWritten
one_asked {S} {next} {writes} {start} {s} {t} {all} {rest} {o} {w} {n} {q} left is write_result = some_asked (q ∷ []) rest left (is, (n, write_result, refl))

pub one_failed : {S T E : Type 0} → {next : S → Request → S} → {writes : Writing S} → {start s t : S} → {all rest : List Request} → {o w n : Option (List ℕ)} → {q : Request} → (stops : Writing S) (result : Result T E) → IsLeft S next writes start all o s w (q ∷ rest) → t ≡ next s q → stops s q w n → IsErr result → AsksInOrder next writes stops start all t o n result
unfolding AllWritten
one_failed {S} {T} {E} {next} {writes} {start} {s} {t} {all} {rest} {o} {w} {n} {q} stops result left is front err =
    let stop : StopsIn next writes stops s (q ∷ []) t w n = record { before = []; last = q; after = []; whole = refl; end_is = is; between = w; end_with_report = refl; front = front } in
    walk_stopped (q ∷ []) rest result left stop err
