-- Why nothing that begins so stands where it would be too deep.
use Rattle.std.proofs.Common.{◌≡◌, ℕ, Bool, true, false, List, [], ◌+◌, drop, sym, ap, subst, ◌∙◌}
use Rattle.erl_syntax.specs.Word.{Word}
use Rattle.erl_syntax.specs.declared.token.TokenKind.{TokenKind}
use Rattle.pattern_read.specs.Cursor.{Readable, StandsAt}
use Rattle.pattern_read.specs.declared.cursor.Numbered.{Numbered}
use Rattle.pattern_read.specs.declared.fault.Cause.TheVariants.{Syntax, TooDeep}
use Rattle.pattern_read.specs.WantedPatterns.{FirstToken, only_deeper, at_end, at_other}

pub cause_none : (begins : TokenKind → Bool) (rest : List Word) → rest ≡ [] → FirstToken begins rest Syntax
cause_none begins rest e = let P : List Word → Type 0 = λ v. FirstToken begins v Syntax in subst P (sym e) at_end

pub cause_deep : (begins : TokenKind → Bool) (all : Readable) (at : ℕ) (n : Numbered) → StandsAt all at n → begins n.token.kind ≡ true → FirstToken begins (drop at all.words) TooDeep
cause_deep begins all at n s h = let P : List Word → Type 0 = λ v. FirstToken begins v TooDeep in subst P (sym s.is) (only_deeper s.word (drop (at + 1) all.words) (ap begins s.kind ∙ h))

pub cause_other : (begins : TokenKind → Bool) (all : Readable) (at : ℕ) (n : Numbered) → StandsAt all at n → begins n.token.kind ≡ false → FirstToken begins (drop at all.words) Syntax
cause_other begins all at n s h = let P : List Word → Type 0 = λ v. FirstToken begins v Syntax in subst P (sym s.is) (at_other s.word (drop (at + 1) all.words) (ap begins s.kind ∙ h))
