use Rattle.std.proofs.Common.{List, ℕ, subst, refl, rules, inl, inr}
use Rattle.agc_image.specs.Images.{AreWords, IsLawful, image_of}
use Rattle.libagc.specs.Codes.{NoImage}
use Rattle.libagc.proofs.Serving.{false_no}
use Rattle.libagc.proofs.fault.image_in.Goals as goal

pub returns-in-None-clause-fault : goal.returns-in-None-clause-fault
unfolding NoImage
returns-in-None-clause-fault c = inl (λ valid. search (rules, c.in-None.ensures.valid.1 valid), refl)

pub returns-then-not-are_words-clause-fault : goal.returns-then-not-are_words-clause-fault
unfolding NoImage
returns-then-not-are_words-clause-fault c =
    inr (inl (c.in-Some.ensures.valid.0 refl, subst (λ (n : ℕ). ¬ AreWords (image_of n c.args.array.now)) c.in-Some.ensures.value (false_no _ c.are_words.result c.are_words.ensures (search rules)), refl))

pub returns-then-not-is_lawful-clause-fault : goal.returns-then-not-is_lawful-clause-fault
unfolding NoImage
returns-then-not-is_lawful-clause-fault c =
    inr (inr (c.in-Some.ensures.valid.0 refl, subst (λ (n : ℕ). AreWords (image_of n c.args.array.now)) c.in-Some.ensures.value (c.are_words.ensures.0 (search rules)), subst (λ (n : ℕ). ¬ IsLawful (image_of n c.args.array.now)) c.in-Some.ensures.value (subst (λ (w : List ℕ). ¬ IsLawful w) c.read.ensures (false_no _ c.is_lawful.result c.is_lawful.ensures (search rules))), refl))

pub returns-else-not-is_lawful-clause-image : goal.returns-else-not-is_lawful-clause-image
returns-else-not-is_lawful-clause-image c = record {
  count = c.in-Some.ensures.valid.0 refl;
  words = subst (λ (n : ℕ). AreWords (image_of n c.args.array.now)) c.in-Some.ensures.value (c.are_words.ensures.0 (search rules));
  lawful = subst (λ (n : ℕ). IsLawful (image_of n c.args.array.now)) c.in-Some.ensures.value (subst IsLawful c.read.ensures (c.is_lawful.ensures.0 (search rules)));
}
