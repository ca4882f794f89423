use Rattle.std.proofs.Common.{refl}
use Rattle.erl_syntax.specs.Names.{integer, binary, bytes, bitstring, bits, utf8, utf16, utf32, float, signed, unsigned, big, little, native}
use Rattle.pattern_read.proofs.SpecWords.{no_word}
use Rattle.pattern_read.proofs.segment_types.named.Goals as goal

pub returns-then-same : goal.returns-then-same
returns-then-same c = integer _ _ (c.same.ensures.yes c.if-same.true) refl

pub returns-then-same-2 : goal.returns-then-same-2
returns-then-same-2 c = binary _ _ (c.same-2.ensures.yes c.if-same-2.true) refl

pub returns-then-same-3 : goal.returns-then-same-3
returns-then-same-3 c = bytes _ _ (c.same-3.ensures.yes c.if-same-3.true) refl

pub returns-then-same-4 : goal.returns-then-same-4
returns-then-same-4 c = bitstring _ _ (c.same-4.ensures.yes c.if-same-4.true) refl

pub returns-then-same-5 : goal.returns-then-same-5
returns-then-same-5 c = bits _ _ (c.same-5.ensures.yes c.if-same-5.true) refl

pub returns-then-same-6 : goal.returns-then-same-6
returns-then-same-6 c = utf8 _ _ (c.same-6.ensures.yes c.if-same-6.true) refl

pub returns-then-same-7 : goal.returns-then-same-7
returns-then-same-7 c = utf16 _ _ (c.same-7.ensures.yes c.if-same-7.true) refl

pub returns-then-same-8 : goal.returns-then-same-8
returns-then-same-8 c = utf32 _ _ (c.same-8.ensures.yes c.if-same-8.true) refl

pub returns-then-same-9 : goal.returns-then-same-9
returns-then-same-9 c = float _ _ (c.same-9.ensures.yes c.if-same-9.true) refl

pub returns-then-same-10 : goal.returns-then-same-10
returns-then-same-10 c = signed _ _ (c.same-10.ensures.yes c.if-same-10.true) refl

pub returns-then-same-11 : goal.returns-then-same-11
returns-then-same-11 c = unsigned _ _ (c.same-11.ensures.yes c.if-same-11.true) refl

pub returns-then-same-12 : goal.returns-then-same-12
returns-then-same-12 c = big _ _ (c.same-12.ensures.yes c.if-same-12.true) refl

pub returns-then-same-13 : goal.returns-then-same-13
returns-then-same-13 c = little _ _ (c.same-13.ensures.yes c.if-same-13.true) refl

pub returns-then-same-14 : goal.returns-then-same-14
returns-then-same-14 c = native _ _ (c.same-14.ensures.yes c.if-same-14.true) refl

pub returns : goal.returns
returns c = no_word c.args.chars.now (c.same.ensures.no c.if-same.false) (c.same-2.ensures.no c.if-same-2.false) (c.same-3.ensures.no c.if-same-3.false) (c.same-4.ensures.no c.if-same-4.false) (c.same-5.ensures.no c.if-same-5.false) (c.same-6.ensures.no c.if-same-6.false) (c.same-7.ensures.no c.if-same-7.false) (c.same-8.ensures.no c.if-same-8.false) (c.same-9.ensures.no c.if-same-9.false) (c.same-10.ensures.no c.if-same-10.false) (c.same-11.ensures.no c.if-same-11.false) (c.same-12.ensures.no c.if-same-12.false) (c.same-13.ensures.no c.if-same-13.false) (c.same-14.ensures.no c.if-same-14.false)
