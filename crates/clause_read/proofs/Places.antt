-- The place of the word behind those that are read.
use Rattle.std.proofs.Common.{◌≡◌, ℕ, suc, ◌+◌, ◌-◌, ◌<◌, ◌≤◌, List, [], ◌∷◌, length, drop, get_or, refl, sym, ap, arith, ◌∙◌}
use Rattle.std.proofs.Math.Seq.{drop-cons}
use Rattle.std.proofs.Math.ListN.{drop_of_length-le}
use Rattle.erl_syntax.specs.declared.span.Span.{Span}
use Rattle.erl_syntax.specs.Tokens.{after, place_from}
use Rattle.pattern_read.specs.declared.cursor.Numbered.{Numbered}
use Rattle.pattern_read.specs.Cursor.{Readable, StandsAt}
use Rattle.clause_read.specs.ReadText.{place_in}

pub place_there : (ws : Readable) (at : ℕ) (n : Numbered) (last : Span) → StandsAt ws at n → n.token.span ≡ place_in last (drop at ws.words)
place_there ws at n last s = sym (ap (place_in last) s.is ∙ s.place)

pub place_behind : (ws : Readable) (at : ℕ) (last : Span) → drop at ws.words ≡ [] → last ≡ place_in last (drop at ws.words)
place_behind ws at last e = sym (ap (place_in last) e)

pub place_past : (ws : Readable) (at : ℕ) (last : Span) → length ws.words ≤ at → last ≡ place_in last (drop at ws.words)
place_past ws at last h = place_behind ws at last (drop_of_length-le ws.words h)
