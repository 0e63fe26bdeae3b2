-- The report of a machine's words and totals.
use Rattle.std.specs.Prelude.{ℕ, List, [], ◌∷◌, ◌++◌, codes, if◌then◌else◌, ◌==◌, slice_index, take}
use Rattle.std.specs.Prelude.{drop}
use Rattle.std.specs.List.{flat_map, range_with_len}
use Rattle.std.specs.Fmt.{decimal}
use Rattle.agc_word.specs.Layout.{set_place, use_words, newjob, time3, lst1, lst2, phase_words}
use Rattle.agc_word.specs.Layout.{failreg}
use Rattle.agc_machine.specs.declared.totals.Totals.{Totals}
use Rattle.agc_text.specs.declared.reporting.ReportLine.{ReportLine}
use Rattle.agc_text.specs.declared.reporting.ReportLine.TheVariants.{Vac, Newjob, Time3, Lst1, Lst2}
use Rattle.agc_text.specs.declared.reporting.ReportLine.TheVariants.{Phase, Failreg, Served, Alarms}
use Rattle.agc_text.specs.declared.reporting.ReportLine.TheVariants.{Restarts}
use Rattle.agc_text.specs.Replies.{words_text}

-- `count` words, from a place on
abbrev pub words_at : ℕ → ℕ → List ℕ → List ℕ
words_at place count words = take count (drop place words)

-- the twelve words of a core set, or that it is free: its last word, PRIORITY, is then 77777
abbrev pub set_text : List ℕ → List ℕ
set_text set = if slice_index set 11 == 0o77777 then codes " FREE" else words_text set

-- the line of core set k
unfoldable pub set_line : List ℕ → ℕ → List ℕ
set_line words k =
    codes "SET " ++ decimal k ++ set_text (words_at (set_place k) 12 words) ++ 10 ∷ []

-- a count: a space, and its decimal digits
abbrev pub count_text : ℕ → List ℕ
count_text count = 32 ∷ decimal count

-- each other line, without its end
unfoldable pub line_text : List ℕ → Totals → ReportLine → List ℕ
line_text words totals Vac = codes "VAC" ++ words_text (words_at use_words 5 words)
line_text words totals Newjob = codes "NEWJOB" ++ words_text (words_at newjob 1 words)
line_text words totals Time3 = codes "TIME3" ++ words_text (words_at time3 1 words)
line_text words totals Lst1 = codes "LST1" ++ words_text (words_at lst1 8 words)
line_text words totals Lst2 = codes "LST2" ++ words_text (words_at lst2 18 words)
line_text words totals Phase = codes "PHASE" ++ words_text (words_at phase_words 12 words)
line_text words totals Failreg = codes "FAILREG" ++ words_text (words_at failreg 3 words)
line_text words totals Served = codes "SERVED" ++ count_text totals.served
line_text words totals Alarms =
    codes "ALARMS" ++ count_text totals.a1201 ++ count_text totals.a1202 ++ count_text totals.a1203
line_text words totals Restarts = codes "RESTARTS" ++ count_text totals.restarts

-- the first line, which says how many core sets there are; a report of seven has none
abbrev pub sets_count_text : ℕ → List ℕ
sets_count_text sets = if sets == 7 then [] else (codes "SETS " ++ decimal sets ++ 10 ∷ [])

-- the lines of this many core sets, from 0
unfoldable pub sets_text : ℕ → List ℕ → List ℕ
sets_text sets words = flat_map (set_line words) (range_with_len 0 sets)

-- the other lines, in their order
abbrev pub lines : List ReportLine
lines = Vac ∷ Newjob ∷ Time3 ∷ Lst1 ∷ Lst2 ∷ Phase ∷ Failreg ∷ Served ∷ Alarms ∷ Restarts ∷ []

-- the text of these lines, each with its end
unfoldable pub lines_text : List ℕ → Totals → List ℕ
lines_text words totals = flat_map (λ line. line_text words totals line ++ 10 ∷ []) lines

-- the whole report of this many core sets
abbrev pub report_text : ℕ → List ℕ → Totals → List ℕ
report_text sets words totals =
    sets_count_text sets ++ (sets_text sets words ++ lines_text words totals)

-- of proofs alone: a line with its end
unfoldable pub full_line : List ℕ → Totals → ReportLine → List ℕ
full_line words totals line = line_text words totals line ++ 10 ∷ []
