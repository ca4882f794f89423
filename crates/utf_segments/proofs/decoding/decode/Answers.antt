use Rattle.std.proofs.Common.{◌≡◌, ℕ, ℤ, pos, ◌*◌, ◌/◌, ◌^◌, ◌<◌, ◌≤◌, Bool, false, IsTrue, List, length, take, drop, get_or, min, refl, ap, sym, ◌∙◌, subst, arith, rules}
use Rattle.std.proofs.lemmas.List.{length-drop}
use Rattle.std.proofs.lemmas.Int.{to_z_pos}
use mir.Val.{to_z}
use mir.Syntax.{w128}
use Rattle.bits_value.specs.Bits.{all_bits}
use Rattle.bits_value.specs.Utf.{is_character, IsCharacter, Utf, utf_bytes, Begins}
use Rattle.bits_value.specs.declared.UtfKind.{UtfKind}
use Rattle.bits_value.specs.declared.Endian.{Endian}
use Rattle.utf_segments.proofs.Fronts.{read-is, read-begins}
use Rattle.utf_segments.proofs.decoding.decode.Goals as goal

wide-character : (n : ℕ) → n < 2 ^ 32 → to_z w128 n ≡ pos n
wide-character n h = to_z_pos w128 n (omega arith)

found : (k : UtfKind) (e : Endian) (ch len count : ℕ) (word items shown : List ℕ) (bits : List Bool) → ch < 2 ^ 32 → Utf k e (to_z w128 ch) items → shown ≡ items → len ≡ length items →
    (length shown ≤ count) × (take (length shown) word ≡ shown) → length word ≡ 4 → count ≤ 4 → take (8 * count) (all_bits word) ≡ take (8 * count) bits →
    IsTrue (is_character ch) × (len ≡ length (utf_bytes k e ch)) × Begins (all_bits (utf_bytes k e ch)) bits
found k e ch len count word items shown bits small u same long front four short read =
    let v : Utf k e (pos ch) items = subst (λ (z : ℤ). Utf k e z items) (wide-character ch small) u in
    let is : shown ≡ utf_bytes k e ch = same ∙ v.1 in
    let P : List ℕ → Type 0 = λ xs. (length xs ≤ count) × (take (length xs) word ≡ xs) in
    let f : P (utf_bytes k e ch) = subst P is front in
    (v.0, long ∙ ap length v.1, read-begins k e ch word count bits four short read f.0 f.1)

pub returns-then-begins-clause-found : goal.returns-then-begins-clause-found
returns-then-begins-clause-found c =
    let word = c.front-word.result in
    let four : length word ≡ 4 = search rules in
    let m : c.min-count.result ≤ 4 = omega arith in
    found c.args.kind c.args.endian c.character-character.result c.len-then-begins.result c.min-count.result word c.in-Ok.bytes.items c.deref.result.now (drop c.args.off c.args.source)
    c.character-character.type_inv c.in-Ok.ensures.spelled c.deref.ensures.0 c.len-then-begins.ensures.value (c.if-begins.ensures.0 refl) four m c.front-word.ensures

pub returns-else-begins-clause-none : goal.returns-else-begins-clause-none
returns-else-begins-clause-none c = λ d is h.
    let word = c.front-word.result in
    let ch = c.character-character.result in
    let bits = drop c.args.off c.args.source in
    let four : length word ≡ 4 = search rules in
    let small : (i : ℕ) → get_or word i 0 < 2 ^ 8 = search rules in
    let l = length-drop c.args.off c.args.source in
    let n : c.min-count.result ≡ min (length bits / 8) 4 = omega arith in
    let r = read-is c.args.kind c.args.endian d word c.min-count.result bits is four small n c.front-word.ensures h in
    let same : ch ≡ d = c.character-character.ensures ∙ r.0 in
    let u : Utf c.args.kind c.args.endian (pos ch) c.in-Ok.bytes.items = subst (λ (z : ℤ). Utf c.args.kind c.args.endian z c.in-Ok.bytes.items) (wide-character ch c.character-character.type_inv) c.in-Ok.ensures.spelled in
    let shown : utf_bytes c.args.kind c.args.endian d ≡ c.deref.result.now = sym (c.deref.ensures.0 ∙ u.1 ∙ ap (utf_bytes c.args.kind c.args.endian) same) in
    let P : List ℕ → Type 0 = λ xs. (length xs ≤ c.min-count.result) × (take (length xs) word ≡ xs) in
    let f : P c.deref.result.now = subst P shown (r.1, r.2) in
    let no : IsTrue false → ⊥ = λ (f : IsTrue false). cc f in
    no (c.if-begins.ensures.1 f)

pub returns-in-Err-clause-none : goal.returns-in-Err-clause-none
returns-in-Err-clause-none c = λ d is h.
    let word = c.front-word.result in
    let ch = c.character-character.result in
    let bits = drop c.args.off c.args.source in
    let four : length word ≡ 4 = search rules in
    let small : (i : ℕ) → get_or word i 0 < 2 ^ 8 = search rules in
    let l = length-drop c.args.off c.args.source in
    let n : c.min-count.result ≡ min (length bits / 8) 4 = omega arith in
    let r = read-is c.args.kind c.args.endian d word c.min-count.result bits is four small n c.front-word.ensures h in
    let same : ch ≡ d = c.character-character.ensures ∙ r.0 in
    let no : IsCharacter (pos ch) → ⊥ = subst (λ (z : ℤ). IsCharacter z → ⊥) (wide-character ch c.character-character.type_inv) c.in-Err.ensures.refused in
    no (subst (λ (m : ℕ). IsTrue (is_character m)) (sym same) is)
