use Rattle.std.proofs.Common.{◌≡◌, ◌∙◌, Bool, List, ap, sym, subst}
use Rattle.term_value.specs.Value.{VList}
use Rattle.term_value.specs.Seen.{Seen, SList, IsKnown, meaning}
use Rattle.term_value.specs.Terms.{seen, row}
use Rattle.bit_store.specs.Stores.{itself}
use Rattle.code_tree.specs.PlainTerms.{IsShort, AnyAtom}
use Rattle.code_layout.specs.Layout.{letter_terms}
use Rattle.code_layout.proofs.Letters.{letters_known, letters_meaning}
use Rattle.code_layout.proofs.literals.string.Goals as goal

pub of-requires : goal.of-requires
of-requires c =
    let P : Seen (List Bool) → Type 0 = IsKnown IsShort AnyAtom in
    let made : seen c.in-Some.term ≡ SList (row c.in_ok-letters.letters.items) = rw c.in-Some.is at c.in_ok-term.ensures.kept in
    subst P (sym (made ∙ ap (λ ts. SList (row ts)) c.in_ok-letters.ensures)) (letters_known c.args.characters.now)

pub returns-in-Some : goal.returns-in-Some
returns-in-Some c =
    let made : seen c.in-Some.term ≡ SList (row c.in_ok-letters.letters.items) = rw c.in-Some.is at c.in_ok-term.ensures.kept in
    ap (meaning itself) (c.of.ensures ∙ made ∙ ap (λ ts. SList (row ts)) c.in_ok-letters.ensures) ∙ ap VList (letters_meaning c.args.characters.now)
