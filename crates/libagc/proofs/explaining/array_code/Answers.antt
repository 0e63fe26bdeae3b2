use Rattle.std.proofs.Common.{List, ℕ, subst, sym, inl, inr, refl}
use Rattle.agc_machine.specs.Stands.{IsReady}
use Rattle.agc_image.specs.Images.{image_of}
use Rattle.libagc.specs.Codes.{NoImage, code_of}
use Rattle.libagc.specs.Stepping.{Lacks}
use Rattle.libagc.proofs.explaining.array_code.Goals as goal

pub returns-in-Err : goal.returns-in-Err
returns-in-Err c = inr (subst (λ (n : ℕ). NoImage n c.args.sets c.args.words.now) (sym c.code.ensures) c.in-Err.ensures.fault)

pub returns-in-Some : goal.returns-in-Some
returns-in-Some c =
    let lacks = subst (λ (w : List ℕ). Lacks (code_of c.in-Some.fault) w 0) c.in-Ok.ensures.opened.image (c.in-Some.ensures.lacks 0) in
    inl (c.in-Ok.ensures.image, subst (λ (n : ℕ). Lacks n (image_of c.args.sets c.args.words.now) 0) (sym c.code-in-Some.ensures) lacks)

pub returns-in-None : goal.returns-in-None
returns-in-None c =
    inl (c.in-Ok.ensures.image, inr (inr (subst IsReady c.in-Ok.ensures.opened.image c.in-None.ensures.ready, refl)))
