-- The text of a session.
use Rattle.std.proofs.Common.{◌≡◌, ℕ, List, [], ◌∷◌, ◌++◌, ◌⊎◌, Option, Result, subst, refl, sym, ap, ◌∙◌, append_assoc, inl, inr}
use Rattle.std.specs.Io.KnownBytes.{Appends}
use Rattle.std.proofs.KnownBytes.{Appends-nil, Appends-trans}
use Rattle.std.specs.List.{fold}
use Rattle.agc_plan.specs.declared.request.Request.{Request}
use Rattle.agc_machine.specs.Image.{HandsOut}
use Rattle.agc_machine.specs.Machines.{Machined, after, after_all}
use Rattle.agc_text.specs.Report.{report_text}
use Rattle.agc_text.specs.Writing.{AppendsFront}
use Rattle.agc_text.specs.Session.{line_for}
use Rattle.agc_text.proofs.Steps.{up_to_start, up_to_more, up_to_front, up_to_more_front}
use Rattle.agc_session.specs.Session.{IsSession, WritesSession, answer_lines}
use Rattle.agc_session.specs.declared.run_fault.RunFault.{RunFault}
use Rattle.agc_session.specs.Steps.{line_written, line_stopped}
use Rattle.agc_session.specs.Walks.{AllWritten, StopsIn}

-- all of them wrote their lines
pub lines_written : (machine : Machined) (rs : List Request) (o n : Option (List ℕ)) → AllWritten after line_written machine rs o n → Appends o n (answer_lines machine rs)
unfolding AllWritten answer_lines
lines_written machine [] o n is = subst (λ (x : Option (List ℕ)). Appends o x []) (sym is) (Appends-nil o)
lines_written machine (r ∷ rs) o n h = Appends-trans o h.0 n (line_for machine r) (answer_lines (after machine r) rs) h.1 (lines_written (after machine r) rs h.0 n h.2)

lines_append : (machine : Machined) (a b : List Request) → answer_lines machine (a ++ b) ≡ answer_lines machine a ++ answer_lines (fold after machine a) b
unfolding answer_lines
lines_append machine [] b = refl
lines_append machine (r ∷ a) b = ap (λ (x : List ℕ). line_for machine r ++ x) (lines_append (after machine r) a b) ∙ sym (append_assoc (line_for machine r) (answer_lines (after machine r) a) (answer_lines (fold after (after machine r) a) b))

-- and where it stopped, a front of all the lines
pub stopped_front : {machine t : Machined} → {rs : List Request} → {o n : Option (List ℕ)} → StopsIn after line_written line_stopped machine rs t o n → AppendsFront o n (answer_lines machine rs)
unfolding answer_lines
stopped_front {machine} {t} {rs} {o} {n} stop =
    let here = fold after machine stop.before in
    let own = line_for here stop.last in
    let rest = answer_lines (after here stop.last) stop.after in
    let all = answer_lines machine stop.before ++ (own ++ rest) in
    let whole : answer_lines machine rs ≡ all = ap (answer_lines machine) stop.whole ∙ lines_append machine stop.before (stop.last ∷ stop.after) in
    subst (λ (l : List ℕ). AppendsFront o n l) (sym whole)
    (up_to_front o stop.between n all own rest
    (up_to_more o o stop.between all (answer_lines machine stop.before) (own ++ rest) (up_to_start o all) (lines_written machine stop.before o stop.between stop.end_with_report)) stop.front)

-- a front of a session's text was written: of its answers' lines, or these all and a front of the report
abbrev pub AppendsSessionFront : Option (List ℕ) → Option (List ℕ) → Machined → List Request → Type 0
AppendsSessionFront old new machine requests =
    AppendsFront old new (answer_lines machine requests)
    ⊎ ((text : List ℕ) × IsSession machine requests text × AppendsFront old new text)

-- the text of a session, of words of the machine that was reached
session_of : (machine m : Machined) (rs : List Request) (words : List ℕ) → m ≡ fold after machine rs → HandsOut m words → IsSession machine rs (answer_lines machine rs ++ report_text m.plan.sets words m.totals)
unfolding after_all
session_of machine m rs words is image = record {
  words = words;
  words_are = subst (λ (x : Machined). HandsOut x words) is image;
  text_is = subst (λ (x : Machined). answer_lines machine rs ++ report_text m.plan.sets words m.totals ≡ answer_lines machine rs ++ report_text x.plan.sets words x.totals) is refl;
}

-- the report was written after the answers' lines
pub session_written : (o w n : Option (List ℕ)) (machine start m : Machined) (rs : List Request) → start ≡ machine → m ≡ fold after start rs → Appends o w (answer_lines start rs) → (words : List ℕ) × HandsOut m words × Appends w n (report_text m.plan.sets words m.totals) → (text : List ℕ) × IsSession machine rs text × Appends o n text
session_written o w n machine start m rs from is h k =
    subst (λ (x : Machined). (text : List ℕ) × IsSession x rs text × Appends o n text) from
    (answer_lines start rs ++ report_text m.plan.sets k.0 m.totals, session_of start m rs k.0 is k.1, Appends-trans o w n (answer_lines start rs) (report_text m.plan.sets k.0 m.totals) h k.2)

-- a front of it was
pub session_front : (o w n : Option (List ℕ)) (machine start m : Machined) (rs : List Request) → start ≡ machine → m ≡ fold after start rs → Appends o w (answer_lines start rs) → (words : List ℕ) × HandsOut m words × AppendsFront w n (report_text m.plan.sets words m.totals) → AppendsSessionFront o n machine rs
session_front o w n machine start m rs from is h k =
    subst (λ (x : Machined). AppendsSessionFront o n x rs) from
    (inr (answer_lines start rs ++ report_text m.plan.sets k.0 m.totals, session_of start m rs k.0 is k.1, (k.2.0, k.2.1, up_to_more_front o w n (answer_lines start rs) (report_text m.plan.sets k.0 m.totals) k.2.0 h k.2.2)))

-- a front of the answers' lines was
pub lines_front : (o n : Option (List ℕ)) (machine start : Machined) (rs : List Request) → start ≡ machine → AppendsFront o n (answer_lines start rs) → AppendsSessionFront o n machine rs
lines_front o n machine start rs from h = subst (λ (x : Machined). AppendsSessionFront o n x rs) from (inl h)

-- what was written of a machine that is this one
pub from_machine : {T : Type 0} (o n : Option (List ℕ)) (machine start : Machined) (rs : List Request) (r : Result T RunFault) → start ≡ machine → WritesSession o n start rs r → WritesSession o n machine rs r
from_machine {T} o n machine start rs r is h = subst (λ (m : Machined). WritesSession o n m rs r) is h
