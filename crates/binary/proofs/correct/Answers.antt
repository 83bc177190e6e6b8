-- What was located is the answer.
use Rattle.std.proofs.Common.{List, ap, arith, length, map, sym, ◌∙◌}
use Rattle.std.proofs.Math.Option.{Option}
use Rattle.field.specs.Field.{F, byte}
use Rattle.series.specs.Series.{Series}
use Rattle.series.specs.Array.{word_bytes}
use Rattle.series.specs.Word.{word}
use Rattle.binary.specs.Definition.{found, answer_to, word_in}
use Rattle.binary.specs.Reading.{located-none, located-some}
use Rattle.binary.proofs.correct.Goals as goal

pub returns-in_default : goal.returns-in_default
returns-in_default c =
    let is = c.even_syndromes-s.ensures in
    let none = located-none _ _ c.requires.0 c.requires.2 _ _ _ is.0 is.1 is.2 c.in_default.ensures in record {
      answer = sym (ap (λ (o : Option (List F)). answer_to (found o)) none);
      word = sym (ap (λ (o : Option (List F)). word_in (found o) c.args.out.now) none);
    }

pub write-requires : goal.write-requires
write-requires c =
    let is = c.even_syndromes-s.ensures in
    let (a, b, d) = (located-some _ _ c.requires.0 c.requires.2 _ _ _ is.0 is.1 is.2 _ c.in-Some.ensures).0 in
    (c.requires.1, a, b, d)

pub returns : goal.returns
returns c =
    let n = length c.args.subword.now in
    let is = c.even_syndromes-s.ensures in
    let some = (located-some _ _ c.requires.0 c.requires.2 _ _ _ is.0 is.1 is.2 _ c.in-Some.ensures).1 in record {
      answer = sym (ap (λ (o : Option (List F)). answer_to (found o)) some);
      word = sym (word_bytes n c.write.new.out (omega arith) (λ i. omega (arith, c.type_inv.out i)))
          ∙ ap (λ (f : Series). map byte (word n f)) c.write.ensures
          ∙ sym (ap (λ (o : Option (List F)). word_in (found o) c.args.out.now) some);
    }
