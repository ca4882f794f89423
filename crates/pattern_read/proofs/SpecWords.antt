-- The words of a segment's type, each of which stands for one thing.
use Rattle.std.proofs.Common.{◌≡◌, ◌≢◌, ℕ, List, codes, Option, Some, None, if◌then◌else◌, sym, ap, ◌∙◌}
use lib.Pointwise.{pointwise}
use lib.Dec.{eqb}
use Rattle.erl_syntax.specs.declared.segment.Spec.{Spec}
use Rattle.erl_syntax.specs.declared.segment.Spec.TheVariants as s
use Rattle.erl_syntax.specs.Names.{Names, unit_word, integer, binary, bytes, bitstring, bits, utf8, utf16, utf32, float, signed, unsigned, big, little, native}

-- what the characters stand for
abbrev known : List ℕ → Option Spec
known chars = if pointwise eqb chars (codes "integer") then Some s.Integer else (if pointwise eqb chars (codes "binary") then Some s.Binary else (if pointwise eqb chars (codes "bytes") then Some s.Binary else (if pointwise eqb chars (codes "bitstring") then Some s.Bitstring else (if pointwise eqb chars (codes "bits") then Some s.Bitstring else (if pointwise eqb chars (codes "utf8") then Some s.Utf8 else (if pointwise eqb chars (codes "utf16") then Some s.Utf16 else (if pointwise eqb chars (codes "utf32") then Some s.Utf32 else (if pointwise eqb chars (codes "float") then Some s.Float else (if pointwise eqb chars (codes "signed") then Some s.Signed else (if pointwise eqb chars (codes "unsigned") then Some s.Unsigned else (if pointwise eqb chars (codes "big") then Some s.Big else (if pointwise eqb chars (codes "little") then Some s.Little else (if pointwise eqb chars (codes "native") then Some s.Native else (None))))))))))))))

known_is : (chars : List ℕ) (sp : Spec) → Names chars sp → known chars ≡ Some sp
known_is chars sp (integer chars_0 sp_0 e f) = ap known e ∙ ap Some (sym f)
known_is chars sp (binary chars_0 sp_0 e f) = ap known e ∙ ap Some (sym f)
known_is chars sp (bytes chars_0 sp_0 e f) = ap known e ∙ ap Some (sym f)
known_is chars sp (bitstring chars_0 sp_0 e f) = ap known e ∙ ap Some (sym f)
known_is chars sp (bits chars_0 sp_0 e f) = ap known e ∙ ap Some (sym f)
known_is chars sp (utf8 chars_0 sp_0 e f) = ap known e ∙ ap Some (sym f)
known_is chars sp (utf16 chars_0 sp_0 e f) = ap known e ∙ ap Some (sym f)
known_is chars sp (utf32 chars_0 sp_0 e f) = ap known e ∙ ap Some (sym f)
known_is chars sp (float chars_0 sp_0 e f) = ap known e ∙ ap Some (sym f)
known_is chars sp (signed chars_0 sp_0 e f) = ap known e ∙ ap Some (sym f)
known_is chars sp (unsigned chars_0 sp_0 e f) = ap known e ∙ ap Some (sym f)
known_is chars sp (big chars_0 sp_0 e f) = ap known e ∙ ap Some (sym f)
known_is chars sp (little chars_0 sp_0 e f) = ap known e ∙ ap Some (sym f)
known_is chars sp (native chars_0 sp_0 e f) = ap known e ∙ ap Some (sym f)

pub one_word : (chars : List ℕ) (a b : Spec) → Names chars a → Names chars b → a ≡ b
one_word chars a b m n = let p : known chars ≡ Some a = known_is chars a m in let q : known chars ≡ Some b = known_is chars b n in cc

-- `unit` is none of them
pub not_unit : (chars : List ℕ) (sp : Spec) → chars ≡ unit_word → Names chars sp → ⊥
not_unit chars sp e n = let p : known chars ≡ Some sp = known_is chars sp n in let q : known chars ≡ None = ap known e in cc

pub no_word : (chars : List ℕ) → chars ≢ codes "integer" → chars ≢ codes "binary" → chars ≢ codes "bytes" → chars ≢ codes "bitstring" → chars ≢ codes "bits" → chars ≢ codes "utf8" → chars ≢ codes "utf16" → chars ≢ codes "utf32" → chars ≢ codes "float" → chars ≢ codes "signed" → chars ≢ codes "unsigned" → chars ≢ codes "big" → chars ≢ codes "little" → chars ≢ codes "native" → (sp : Spec) → Names chars sp → ⊥
no_word chars n0 n1 n2 n3 n4 n5 n6 n7 n8 n9 n10 n11 n12 n13 sp (integer chars_0 sp_0 e f) = n0 e
no_word chars n0 n1 n2 n3 n4 n5 n6 n7 n8 n9 n10 n11 n12 n13 sp (binary chars_0 sp_0 e f) = n1 e
no_word chars n0 n1 n2 n3 n4 n5 n6 n7 n8 n9 n10 n11 n12 n13 sp (bytes chars_0 sp_0 e f) = n2 e
no_word chars n0 n1 n2 n3 n4 n5 n6 n7 n8 n9 n10 n11 n12 n13 sp (bitstring chars_0 sp_0 e f) = n3 e
no_word chars n0 n1 n2 n3 n4 n5 n6 n7 n8 n9 n10 n11 n12 n13 sp (bits chars_0 sp_0 e f) = n4 e
no_word chars n0 n1 n2 n3 n4 n5 n6 n7 n8 n9 n10 n11 n12 n13 sp (utf8 chars_0 sp_0 e f) = n5 e
no_word chars n0 n1 n2 n3 n4 n5 n6 n7 n8 n9 n10 n11 n12 n13 sp (utf16 chars_0 sp_0 e f) = n6 e
no_word chars n0 n1 n2 n3 n4 n5 n6 n7 n8 n9 n10 n11 n12 n13 sp (utf32 chars_0 sp_0 e f) = n7 e
no_word chars n0 n1 n2 n3 n4 n5 n6 n7 n8 n9 n10 n11 n12 n13 sp (float chars_0 sp_0 e f) = n8 e
no_word chars n0 n1 n2 n3 n4 n5 n6 n7 n8 n9 n10 n11 n12 n13 sp (signed chars_0 sp_0 e f) = n9 e
no_word chars n0 n1 n2 n3 n4 n5 n6 n7 n8 n9 n10 n11 n12 n13 sp (unsigned chars_0 sp_0 e f) = n10 e
no_word chars n0 n1 n2 n3 n4 n5 n6 n7 n8 n9 n10 n11 n12 n13 sp (big chars_0 sp_0 e f) = n11 e
no_word chars n0 n1 n2 n3 n4 n5 n6 n7 n8 n9 n10 n11 n12 n13 sp (little chars_0 sp_0 e f) = n12 e
no_word chars n0 n1 n2 n3 n4 n5 n6 n7 n8 n9 n10 n11 n12 n13 sp (native chars_0 sp_0 e f) = n13 e
