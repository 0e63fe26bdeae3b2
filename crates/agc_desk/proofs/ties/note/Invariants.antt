use Rattle.agc_desk.proofs.ties.note.Given as goal

-- the answer that is noted, and of which line's pulse
abbrev pub ghosts-noted : goal.ghosts-noted
ghosts-noted a = record { answer = a.answer.now; pulse = a.pulse }
