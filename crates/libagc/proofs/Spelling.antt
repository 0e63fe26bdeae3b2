-- The lines of requests and actions are UTF-8.
use Rattle.std.proofs.Common.{◌≡◌, ℕ, zero, suc, ◌+◌, ◌/◌, ◌%◌, ◌<◌, nat_lt, Bool, true, ◌&&◌, List, [], ◌∷◌, ◌++◌, codes, refl, arith}
use Rattle.std.proofs.lemmas.Grind.{common_steps}
use Rattle.std.specs.Str.{IsUtf8, IsAscii}
use Rattle.std.specs.Fmt.{decimal}
use Rattle.std.proofs.lemmas.Str.{IsUtf8-append, IsUtf8-from_ascii, IsAscii-append}
use Rattle.std.proofs.lemmas.Str.Ascii.{IsAscii-nil, IsAscii-cons}
use Rattle.std.proofs.lemmas.Fmt.{IsAscii-decimal}
use Rattle.agc_plan.specs.declared.request.Entry.{Entry}
use Rattle.agc_plan.specs.declared.request.Task.{Task}
use Rattle.agc_plan.specs.declared.request.Request.{Request}
use Rattle.agc_plan.specs.declared.request.Request.TheVariants as request
use Rattle.agc_plan.specs.declared.request.Action.{Action}
use Rattle.agc_plan.specs.declared.request.Action.TheVariants as action
use Rattle.agc_plan.specs.Ranges.{IsRequest, IsAction}
use Rattle.agc_text.specs.Numbers.{octal}
use Rattle.agc_text.specs.Lines.{line_of, action_line_of, entry_text, task_text}

-- a literal is ASCII: its bytes are small
abbrev small : List ℕ → Bool
small [] = true
small (b ∷ bs) = nat_lt b 128 && small bs

below : (b : ℕ) (bs : List ℕ) → small (b ∷ bs) ≡ true → b < 128
below b bs e = grind (arith, common_steps)

rest : (b : ℕ) (bs : List ℕ) → small (b ∷ bs) ≡ true → small bs ≡ true
rest b bs e = grind (arith, common_steps)

literal_ascii : (bs : List ℕ) → small bs ≡ true → IsAscii bs
literal_ascii [] e = IsAscii-nil
literal_ascii (b ∷ bs) e = IsAscii-cons b bs (below b bs e) (literal_ascii bs (rest b bs e))

literal : (bs : List ℕ) → small bs ≡ true → IsUtf8 bs
literal bs e = IsUtf8-from_ascii bs (literal_ascii bs e)

digit : (n : ℕ) → 48 + n % 8 < 128
digit n = omega arith

octal_ascii : (k n : ℕ) → IsAscii (octal k n)
octal_ascii zero n = IsAscii-nil
octal_ascii (suc k) n = IsAscii-append (octal k (n / 8)) ((48 + n % 8) ∷ []) (octal_ascii k (n / 8)) (IsAscii-cons (48 + n % 8) [] (digit n) IsAscii-nil)

octal_utf8 : (k n : ℕ) → IsUtf8 (octal k n)
octal_utf8 k n = IsUtf8-from_ascii (octal k n) (octal_ascii k n)

decimal_utf8 : (n : ℕ) → n < 18446744073709551616 → IsUtf8 (decimal n)
decimal_utf8 n h = IsUtf8-from_ascii (decimal n) (IsAscii-decimal n h)

after_space : (left : List ℕ) → IsUtf8 left → IsUtf8 (32 ∷ left)
after_space left u = IsUtf8-append (32 ∷ []) left (literal (32 ∷ []) refl) u

pair_utf8 : (at bank : ℕ) → IsUtf8 (32 ∷ octal 5 at ++ 32 ∷ octal 5 bank)
pair_utf8 at bank = after_space (octal 5 at ++ 32 ∷ octal 5 bank) (IsUtf8-append (octal 5 at) (32 ∷ octal 5 bank) (octal_utf8 5 at) (after_space (octal 5 bank) (octal_utf8 5 bank)))

entry_utf8 : (priority : ℕ) (entry : Entry) → IsUtf8 (entry_text priority entry)
entry_utf8 priority entry = IsUtf8-append (octal 2 priority) (32 ∷ octal 5 entry.at ++ 32 ∷ octal 5 entry.bank) (octal_utf8 2 priority) (pair_utf8 entry.at entry.bank)

task_utf8 : (delay : ℕ) (task : Task) → delay < 18446744073709551616 → IsUtf8 (task_text delay task)
task_utf8 delay task h = IsUtf8-append (decimal delay ++ 32 ∷ octal 5 task.at) (32 ∷ octal 5 task.bank) (IsUtf8-append (decimal delay) (32 ∷ octal 5 task.at) (decimal_utf8 delay h) (after_space (octal 5 task.at) (octal_utf8 5 task.at))) (after_space (octal 5 task.bank) (octal_utf8 5 task.bank))

-- the line of a request is text
pub line_is_text : (r : Request) → IsRequest r → IsUtf8 (line_of r)
line_is_text (request.Novac priority entry) h = IsUtf8-append (codes "novac ") (entry_text priority entry) (literal (codes "novac ") refl) (entry_utf8 priority entry)
line_is_text (request.Findvac priority entry) h = IsUtf8-append (codes "findvac ") (entry_text priority entry) (literal (codes "findvac ") refl) (entry_utf8 priority entry)
line_is_text request.EndOfJob h = literal (codes "end") refl
line_is_text (request.Sleep at) h = IsUtf8-append (codes "sleep ") (octal 5 at) (literal (codes "sleep ") refl) (octal_utf8 5 at)
line_is_text (request.Rouse at) h = IsUtf8-append (codes "rouse ") (octal 5 at) (literal (codes "rouse ") refl) (octal_utf8 5 at)
line_is_text (request.Prio priority) h = IsUtf8-append (codes "prio ") (octal 2 priority) (literal (codes "prio ") refl) (octal_utf8 2 priority)
line_is_text request.Change h = literal (codes "change") refl
line_is_text (request.Store place word) h = IsUtf8-append (codes "store ") (octal 1 place ++ 32 ∷ octal 5 word) (literal (codes "store ") refl) (IsUtf8-append (octal 1 place) (32 ∷ octal 5 word) (octal_utf8 1 place) (after_space (octal 5 word) (octal_utf8 5 word)))
line_is_text (request.List delay task) h = IsUtf8-append (codes "list ") (task_text delay task) (literal (codes "list ") refl) (task_utf8 delay task (omega (arith, h.0.1)))
line_is_text request.Tick h = literal (codes "tick") refl
line_is_text (request.SetPhase group phase) h = IsUtf8-append (codes "phase ") (octal 1 group ++ 32 ∷ decimal phase) (literal (codes "phase ") refl) (IsUtf8-append (octal 1 group) (32 ∷ decimal phase) (octal_utf8 1 group) (after_space (decimal phase) (decimal_utf8 phase (omega (arith, h.1)))))
line_is_text request.Restart h = literal (codes "restart") refl
line_is_text request.Fresh h = literal (codes "fresh") refl

-- the text of an action is text
pub action_is_text : (a : Action) → IsAction a → IsUtf8 (action_line_of a)
action_is_text action.Nothing h = literal (codes "nothing") refl
action_is_text (action.Novac priority entry) h = line_is_text (request.Novac priority entry) h
action_is_text (action.Findvac priority entry) h = line_is_text (request.Findvac priority entry) h
action_is_text (action.Rouse at) h = line_is_text (request.Rouse at) h
action_is_text (action.List delay task) h = line_is_text (request.List delay task) h
