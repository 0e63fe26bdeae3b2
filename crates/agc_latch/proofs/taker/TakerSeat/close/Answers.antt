use Rattle.std.proofs.Common.{◌≡◌, ◌+◌, [], ◌∷◌, slice_index, subst, ◌∙◌, ap, sym}
use Rattle.agc_plan.specs.Pulses.{word_of}
use Rattle.agc_latch.specs.Holders.{Joining}
use Rattle.agc_latch.proofs.Keeps.{closes, three_read, word_inside}
use Rattle.agc_latch.proofs.taker.TakerSeat.close.Goals as goal

pub returns : goal.returns
returns c line =
    let i = word_of line in
    let l = word_inside line in
    let back = ap (λ (t : Joining). t.back) c.self.view_is ∙ (c.requires.all ∙ sym (ap (λ (t : Joining). t.given) c.self.view_is)) in
    let read = three_read _ _ _ _ c.word.ensures c.word-2.ensures c.word-3.ensures i l in
    let last = closes _ _ _ _ c.self.invariant.role back c.close_with-closed.ensures.values.2 i l in
    subst (λ (t : Joining). slice_index (c.word.result ∷ c.word-2.result ∷ c.word-3.result ∷ []) i + slice_index t.taken i ≡ slice_index t.posted i) c.self.view_is (ap (λ n. n + slice_index c.self.inside.seat.me.0.taken i) read ∙ last)
