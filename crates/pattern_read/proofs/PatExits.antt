-- What each exit of the readers of patterns says.
use Rattle.std.proofs.Common.{◌≡◌, ℕ, ◌+◌, ◌≤◌, ◌<◌, max, true, List, [], ◌∷◌, ◌++◌, append_assoc, drop, Ok, Err, refl, sym, ap, ◌∙◌, arith}
use Rattle.erl_syntax.specs.declared.token.TokenKind.{TokenKind}
use Rattle.erl_syntax.specs.declared.token.TokenKind.TheVariants as k
use Rattle.erl_syntax.specs.declared.pattern.Pattern.{Pattern}
use Rattle.erl_syntax.specs.declared.pattern.Pattern.TheVariants as p
use Rattle.erl_syntax.specs.declared.segment.Segment.{Segment}
use Rattle.erl_syntax.specs.Grammar.{Context, under, inside}
use Rattle.pattern_read.specs.Cursor.{StandsAt}
use Rattle.pattern_read.specs.declared.cursor.Numbered.{Numbered}
use Rattle.pattern_read.specs.declared.placed.Placed.{Placed}
use Rattle.pattern_read.specs.declared.fault.Fault.{Fault}
use Rattle.pattern_read.specs.declared.fault.Cause.TheVariants.{Syntax, TooDeep}
use Rattle.pattern_read.specs.Reading.{Passes, IsRefused, Gives, closed}
use Rattle.pattern_read.specs.Wanted.{IsAt, NoMark, mark_in}
use Rattle.pattern_read.specs.WantedPatterns.{goes_same, opens_pattern, pattern_in, pat_in, same_in, patterns_in, pattern_list_in, pattern_end_in, pattern_bits_in, ClosesPatterns}
use Rattle.pattern_read.proofs.Passing.{same_kinds, Behind, and_then, refused_after, first_of_two, at_token, refused_at, remade, fault_after, fault_first}
use Rattle.pattern_read.proofs.Levels.{same_pair}
use Rattle.pattern_read.proofs.Operands.{behind_mark, mark_spelled}
use Rattle.pattern_read.proofs.Pats.{same_pat, on_brace, on_bracket, on_bits}
use Rattle.pattern_read.proofs.PatBegins.{on_paren, bracket_too_deep}
use Rattle.pattern_read.proofs.PatLists.{more_patterns_in, on_no_patterns, pattern_and_more, on_patterns, on_comma, on_end, more_refused, behind_pattern, more_spelled}
use Rattle.pattern_read.proofs.PatTails.{on_pattern, behind_pat, same_spelled, on_alone, more_same_in, pat_and_more, on_match, on_again, on_last, behind_same, more_same_spelled, match_too_deep, items_in, pattern_and_items, Listed, on_empty, on_items, on_next, on_stop, on_shut, on_bar, end_refused, behind_item, items_spelled}
use Rattle.pattern_read.specs.Cursor.{Readable}

-- ---- Patterns and chains

pub pattern_first : (c : Context) (ws : Readable) (at : ℕ) (f : Fault) → Gives closed (pat_in c) ws at (Err f) → Gives goes_same (pattern_in c) ws at (Err f)
pattern_first c ws at f g = fault_after ws at at f (same_kinds goes_same) (on_pattern c (drop at ws.words)) (fault_first (pat_in c) ws at f (behind_pat c) (same_spelled c) g)

pattern_then : (c : Context) (ws : Readable) (at after : ℕ) (y : Placed Pattern) → Gives closed (pat_in c) ws at (Ok (y, after)) → Passes ws.limits {X = Placed Pattern} {Y = Pattern × ℕ} goes_same (pattern_in c) (drop at ws.words) (same_in c y) (drop after ws.words) (λ r. record { at = y.at; tree = r.0; height = r.1 })
pattern_then c ws at after y g = and_then (same_kinds goes_same) (on_pattern c (drop at ws.words)) (first_of_two (behind_pat c) g)

pub pattern_same : (c : Context) (ws : Readable) (at after : ℕ) (y : Placed Pattern) (f : Fault) → Gives closed (pat_in c) ws at (Ok (y, after)) → Gives goes_same (same_in c y) ws after (Err f) → Gives goes_same (pattern_in c) ws at (Err f)
pattern_same c ws at after y f g t = fault_after ws at after f (same_kinds goes_same) (pattern_then c ws at after y g) t

pub pattern_whole : (c : Context) (ws : Readable) (at after next : ℕ) (y : Placed Pattern) (e : Pattern) (d : ℕ) → Gives closed (pat_in c) ws at (Ok (y, after)) → Gives goes_same (same_in c y) ws after (Ok ((e, d), next)) → Gives goes_same (pattern_in c) ws at (Ok (record { at = y.at; tree = e; height = d }, next))
pattern_whole c ws at after next y e d g t = and_then (same_kinds goes_same) (pattern_then c ws at after y g) t

pub same_none : (c : Context) (ws : Readable) (at : ℕ) (y : Placed Pattern) → NoMark k.Match (drop at ws.words) → Gives goes_same (same_in c y) ws at (Ok ((y.tree, y.height), at))
same_none c ws at y n = on_alone c y (drop at ws.words) n

pub same_deep : (c : Context) (ws : Readable) (at : ℕ) (y : Placed Pattern) → IsAt ws at k.Match → ws.limits.trees < c.deep + y.height → IsRefused ws.limits {X = Pattern × ℕ} goes_same (same_in c y) (drop at ws.words) (drop at ws.words) TooDeep
same_deep c ws at y s b = refused_at s.is (match_too_deep c y s.word (drop (at + 1) ws.words) s.kind_is b)

-- what was read so far
abbrev pub SameRead : Context → Placed Pattern → Readable → ℕ → ℕ → List Pattern → ℕ → Type 0
SameRead c y ws at next items h = Passes ws.limits {X = Pattern × ℕ} {Y = Placed Pattern × (List Pattern × ℕ)} goes_same (same_in c y) (drop at ws.words) (pat_and_more (under c)) (drop next ws.words) (λ q. (p.Same y.at (items ++ (q.0.tree ∷ q.1.0)), max h (max q.0.height q.1.1) + 1))

pub same_begin : (c : Context) (y : Placed Pattern) (ws : Readable) (at : ℕ) (items : List Pattern) → IsAt ws at k.Match → c.deep + y.height ≤ ws.limits.trees → items ≡ y.tree ∷ [] → SameRead c y ws at (at + 1) items y.height
same_begin c y ws at items s b e = remade (λ q. same_pair (ap (λ v. p.Same y.at (v ++ (q.0.tree ∷ q.1.0))) (sym e)) refl) (at_token s.is (on_match c y s.word (drop (at + 1) ws.words) s.kind_is b))

pub same_err : (c : Context) (y : Placed Pattern) (ws : Readable) (at next : ℕ) (items : List Pattern) (h : ℕ) (f : Fault) → SameRead c y ws at next items h → Gives closed (pat_in (under c)) ws next (Err f) → Gives goes_same (same_in c y) ws at (Err f)
same_err c y ws at next items h f r g = fault_after ws at next f (same_kinds goes_same) r (fault_first (pat_in (under c)) ws next f (behind_same (under c)) (more_same_spelled (under c)) g)

then_same : (c : Context) (y : Placed Pattern) (ws : Readable) (at next after : ℕ) (items : List Pattern) (h : ℕ) (z : Placed Pattern) → SameRead c y ws at next items h → Gives closed (pat_in (under c)) ws next (Ok (z, after)) → Passes ws.limits {X = Pattern × ℕ} {Y = List Pattern × ℕ} goes_same (same_in c y) (drop at ws.words) (more_same_in (under c)) (drop after ws.words) (λ q. (p.Same y.at (items ++ (z.tree ∷ q.0)), max h (max z.height q.1) + 1))
then_same c y ws at next after items h z r g = and_then (same_kinds goes_same) r (first_of_two (behind_same (under c)) g)

pub same_end : (c : Context) (y : Placed Pattern) (ws : Readable) (at next after : ℕ) (items all : List Pattern) (h g : ℕ) (z : Placed Pattern) → SameRead c y ws at next items h → Gives closed (pat_in (under c)) ws next (Ok (z, after)) → NoMark k.Match (drop after ws.words) → all ≡ items ++ (z.tree ∷ []) → g ≡ max h z.height → Gives goes_same (same_in c y) ws at (Ok ((p.Same y.at all, g + 1), after))
same_end c y ws at next after items all h g z r v n e i = remade (λ u. same_pair (ap (λ a. p.Same y.at a) (sym e)) (omega (arith, i))) (and_then (same_kinds goes_same) (then_same c y ws at next after items h z r v) (on_last (under c) (drop after ws.words) n))

pub same_more : (c : Context) (y : Placed Pattern) (ws : Readable) (at next after : ℕ) (items all : List Pattern) (h g : ℕ) (z : Placed Pattern) → SameRead c y ws at next items h → Gives closed (pat_in (under c)) ws next (Ok (z, after)) → IsAt ws after k.Match → all ≡ items ++ (z.tree ∷ []) → g ≡ max h z.height → SameRead c y ws at (after + 1) all g
same_more c y ws at next after items all h g z r v s e i = remade (λ q. same_pair (ap (λ a. p.Same y.at a) (sym (append_assoc items (z.tree ∷ []) (q.0.tree ∷ q.1.0)) ∙ ap (λ u. u ++ (q.0.tree ∷ q.1.0)) (sym e))) (omega (arith, i))) (and_then (same_kinds goes_same) (then_same c y ws at next after items h z r v) (at_token s.is (on_again (under c) s.word (drop (after + 1) ws.words) s.kind_is)))

-- ---- Brackets

pub bracket_deep : (c : Context) (ws : Readable) (at : ℕ) (n : Numbered) → StandsAt ws at n → opens_pattern n.token.kind ≡ true → ws.limits.brackets ≤ c.open_ → IsRefused ws.limits {X = Placed Pattern} closed (pat_in c) (drop at ws.words) (drop at ws.words) TooDeep
bracket_deep c ws at n s h b = refused_at s.is (bracket_too_deep c s.word (drop (at + 1) ws.words) (ap opens_pattern s.kind ∙ h) b)

paren_in : (c : Context) (ws : Readable) (at : ℕ) (n : Numbered) → StandsAt ws at n → n.token.kind ≡ k.LeftParen → c.open_ < ws.limits.brackets → Passes ws.limits {X = Placed Pattern} {Y = Placed Pattern × Unit {0}} closed (pat_in c) (drop at ws.words) (λ q. pattern_in (inside c) q.0 ++ mark_in k.RightParen q.1) (drop (at + 1) ws.words) (λ q. record { at = n.token.span; tree = q.0.tree; height = q.0.height })
paren_in c ws at n s h b = remade (λ q. same_pat s.place refl refl) (at_token s.is (on_paren c s.word (drop (at + 1) ws.words) (s.kind ∙ h) b))

paren_behind : Behind {X = Placed Pattern} {Y = Unit {0}} goes_same closed (λ q. mark_in k.RightParen)
paren_behind = behind_mark k.RightParen goes_same closed refl

pub paren_err : (c : Context) (ws : Readable) (at : ℕ) (n : Numbered) (f : Fault) → StandsAt ws at n → n.token.kind ≡ k.LeftParen → c.open_ < ws.limits.brackets → Gives goes_same (pattern_in (inside c)) ws (at + 1) (Err f) → Gives closed (pat_in c) ws at (Err f)
paren_err c ws at n f s h b g = fault_after ws at (at + 1) f (same_kinds closed) (paren_in c ws at n s h b) (fault_first (pattern_in (inside c)) ws (at + 1) f paren_behind (mark_spelled k.RightParen) g)

paren_then : (c : Context) (ws : Readable) (at after : ℕ) (n : Numbered) (y : Placed Pattern) → StandsAt ws at n → n.token.kind ≡ k.LeftParen → c.open_ < ws.limits.brackets → Gives goes_same (pattern_in (inside c)) ws (at + 1) (Ok (y, after)) → Passes ws.limits {X = Placed Pattern} {Y = Unit {0}} closed (pat_in c) (drop at ws.words) (mark_in k.RightParen) (drop after ws.words) (λ u. record { at = n.token.span; tree = y.tree; height = y.height })
paren_then c ws at after n y s h b g = and_then (same_kinds closed) (paren_in c ws at n s h b) (first_of_two paren_behind g)

pub paren_close_err : (c : Context) (ws : Readable) (at after : ℕ) (n : Numbered) (y : Placed Pattern) (f : Fault) → StandsAt ws at n → n.token.kind ≡ k.LeftParen → c.open_ < ws.limits.brackets → Gives goes_same (pattern_in (inside c)) ws (at + 1) (Ok (y, after)) → Gives closed (mark_in k.RightParen) ws after (Err f) → Gives closed (pat_in c) ws at (Err f)
paren_close_err c ws at after n y f s h b g m = fault_after ws at after f (same_kinds closed) (paren_then c ws at after n y s h b g) m

pub paren_close : (c : Context) (ws : Readable) (at after next : ℕ) (n : Numbered) (y : Placed Pattern) (u : Unit {0}) → StandsAt ws at n → n.token.kind ≡ k.LeftParen → c.open_ < ws.limits.brackets → Gives goes_same (pattern_in (inside c)) ws (at + 1) (Ok (y, after)) → Gives closed (mark_in k.RightParen) ws after (Ok (u, next)) → Gives closed (pat_in c) ws at (Ok (record { at = n.token.span; tree = y.tree; height = y.height }, next))
paren_close c ws at after next n y u s h b g m = and_then (same_kinds closed) (paren_then c ws at after n y s h b g) m

brace_in : (c : Context) (ws : Readable) (at : ℕ) (n : Numbered) → StandsAt ws at n → n.token.kind ≡ k.LeftBrace → c.open_ < ws.limits.brackets → Passes ws.limits {X = Placed Pattern} {Y = List Pattern × ℕ} closed (pat_in c) (drop at ws.words) (patterns_in k.RightBrace (inside (under c))) (drop (at + 1) ws.words) (λ r. record { at = n.token.span; tree = p.Tuple n.token.span r.0; height = r.1 + 1 })
brace_in c ws at n s h b = remade (λ r. same_pat s.place (ap (λ v. p.Tuple v r.0) s.place) refl) (at_token s.is (on_brace c s.word (drop (at + 1) ws.words) (s.kind ∙ h) b))

pub brace_err : (c : Context) (ws : Readable) (at : ℕ) (n : Numbered) (f : Fault) → StandsAt ws at n → n.token.kind ≡ k.LeftBrace → c.open_ < ws.limits.brackets → Gives closed (patterns_in k.RightBrace (inside (under c))) ws (at + 1) (Err f) → Gives closed (pat_in c) ws at (Err f)
brace_err c ws at n f s h b g = fault_after ws at (at + 1) f (same_kinds closed) (brace_in c ws at n s h b) g

pub brace_ok : (c : Context) (ws : Readable) (at next : ℕ) (n : Numbered) (items : List Pattern) (d : ℕ) → StandsAt ws at n → n.token.kind ≡ k.LeftBrace → c.open_ < ws.limits.brackets → Gives closed (patterns_in k.RightBrace (inside (under c))) ws (at + 1) (Ok ((items, d), next)) → Gives closed (pat_in c) ws at (Ok (record { at = n.token.span; tree = p.Tuple n.token.span items; height = d + 1 }, next))
brace_ok c ws at next n items d s h b g = and_then (same_kinds closed) (brace_in c ws at n s h b) g

square_in : (c : Context) (ws : Readable) (at : ℕ) (n : Numbered) → StandsAt ws at n → n.token.kind ≡ k.LeftBracket → c.open_ < ws.limits.brackets → Passes ws.limits {X = Placed Pattern} {Y = Listed} closed (pat_in c) (drop at ws.words) (pattern_list_in (inside (under c))) (drop (at + 1) ws.words) (λ r. record { at = n.token.span; tree = p.List n.token.span r.0.0 r.0.1; height = r.1 + 1 })
square_in c ws at n s h b = remade (λ r. same_pat s.place (ap (λ v. p.List v r.0.0 r.0.1) s.place) refl) (at_token s.is (on_bracket c s.word (drop (at + 1) ws.words) (s.kind ∙ h) b))

pub square_err : (c : Context) (ws : Readable) (at : ℕ) (n : Numbered) (f : Fault) → StandsAt ws at n → n.token.kind ≡ k.LeftBracket → c.open_ < ws.limits.brackets → Gives closed (pattern_list_in (inside (under c))) ws (at + 1) (Err f) → Gives closed (pat_in c) ws at (Err f)
square_err c ws at n f s h b g = fault_after ws at (at + 1) f (same_kinds closed) (square_in c ws at n s h b) g

pub square_ok : (c : Context) (ws : Readable) (at next : ℕ) (n : Numbered) (items tail : List Pattern) (d : ℕ) → StandsAt ws at n → n.token.kind ≡ k.LeftBracket → c.open_ < ws.limits.brackets → Gives closed (pattern_list_in (inside (under c))) ws (at + 1) (Ok (((items, tail), d), next)) → Gives closed (pat_in c) ws at (Ok (record { at = n.token.span; tree = p.List n.token.span items tail; height = d + 1 }, next))
square_ok c ws at next n items tail d s h b g = and_then (same_kinds closed) (square_in c ws at n s h b) g

bits_in : (c : Context) (ws : Readable) (at : ℕ) (n : Numbered) → StandsAt ws at n → n.token.kind ≡ k.LeftBits → c.open_ < ws.limits.brackets → Passes ws.limits {X = Placed Pattern} {Y = List Segment × ℕ} closed (pat_in c) (drop at ws.words) (pattern_bits_in c) (drop (at + 1) ws.words) (λ r. record { at = n.token.span; tree = p.Bits n.token.span r.0; height = r.1 })
bits_in c ws at n s h b = remade (λ r. same_pat s.place (ap (λ v. p.Bits v r.0) s.place) refl) (at_token s.is (on_bits c s.word (drop (at + 1) ws.words) (s.kind ∙ h) b))

pub bits_err : (c : Context) (ws : Readable) (at : ℕ) (n : Numbered) (f : Fault) → StandsAt ws at n → n.token.kind ≡ k.LeftBits → c.open_ < ws.limits.brackets → Gives closed (pattern_bits_in c) ws (at + 1) (Err f) → Gives closed (pat_in c) ws at (Err f)
bits_err c ws at n f s h b g = fault_after ws at (at + 1) f (same_kinds closed) (bits_in c ws at n s h b) g

pub bits_ok : (c : Context) (ws : Readable) (at next : ℕ) (n : Numbered) (items : List Segment) (d : ℕ) → StandsAt ws at n → n.token.kind ≡ k.LeftBits → c.open_ < ws.limits.brackets → Gives closed (pattern_bits_in c) ws (at + 1) (Ok ((items, d), next)) → Gives closed (pat_in c) ws at (Ok (record { at = n.token.span; tree = p.Bits n.token.span items; height = d }, next))
bits_ok c ws at next n items d s h b g = and_then (same_kinds closed) (bits_in c ws at n s h b) g

-- an opening bracket that is none of the others opens a bit pattern
pub is_bits : (kind : TokenKind) → opens_pattern kind ≡ true → (kind ≡ k.LeftParen → ⊥) → (kind ≡ k.LeftBrace → ⊥) → (kind ≡ k.LeftBracket → ⊥) → kind ≡ k.LeftBits
is_bits k.LeftParen o a b c = absurd (a refl)
is_bits k.LeftBrace o a b c = absurd (b refl)
is_bits k.LeftBracket o a b c = absurd (c refl)
is_bits k.LeftBits o a b c = refl
is_bits _ o a b c = cc

-- ---- Patterns up to a closing bracket

pub patterns_empty : (close : TokenKind) (c : Context) (ws : Readable) (at : ℕ) (items : List Pattern) → ClosesPatterns close → IsAt ws at close → items ≡ [] → Gives closed (patterns_in close c) ws at (Ok ((items, 0), at + 1))
patterns_empty close c ws at items n s e = remade (λ u. same_pair (sym e) refl) (at_token s.is (on_no_patterns close c s.word (drop (at + 1) ws.words) n s.kind_is))

-- what was read so far
abbrev pub PatternsRead : TokenKind → Context → Readable → ℕ → ℕ → List Pattern → ℕ → Type 0
PatternsRead close c ws at next items h = Passes ws.limits {X = List Pattern × ℕ} {Y = Placed Pattern × (List Pattern × ℕ)} closed (patterns_in close c) (drop at ws.words) (pattern_and_more close c) (drop next ws.words) (λ q. (items ++ (q.0.tree ∷ q.1.0), max h (max q.0.height q.1.1)))

pub patterns_begin : (close : TokenKind) (c : Context) (ws : Readable) (at : ℕ) (items : List Pattern) → c.deep ≤ ws.limits.trees → NoMark close (drop at ws.words) → items ≡ [] → PatternsRead close c ws at at items 0
patterns_begin close c ws at items b n e = remade (λ q. same_pair (ap (λ v. v ++ (q.0.tree ∷ q.1.0)) (sym e)) (omega arith)) (on_patterns close c (drop at ws.words) b n)

pub patterns_err : (close : TokenKind) (c : Context) (ws : Readable) (at next : ℕ) (items : List Pattern) (h : ℕ) (f : Fault) → ClosesPatterns close → PatternsRead close c ws at next items h → Gives goes_same (pattern_in c) ws next (Err f) → Gives closed (patterns_in close c) ws at (Err f)
patterns_err close c ws at next items h f n r g = fault_after ws at next f (same_kinds closed) r (fault_first (pattern_in c) ws next f (behind_pattern close c n) (more_spelled close c) g)

then_more : (close : TokenKind) (c : Context) (ws : Readable) (at next after : ℕ) (items : List Pattern) (h : ℕ) (y : Placed Pattern) → ClosesPatterns close → PatternsRead close c ws at next items h → Gives goes_same (pattern_in c) ws next (Ok (y, after)) → Passes ws.limits {X = List Pattern × ℕ} {Y = List Pattern × ℕ} closed (patterns_in close c) (drop at ws.words) (more_patterns_in close c) (drop after ws.words) (λ q. (items ++ (y.tree ∷ q.0), max h (max y.height q.1)))
then_more close c ws at next after items h y n r g = and_then (same_kinds closed) r (first_of_two (behind_pattern close c n) g)

pub patterns_end : (close : TokenKind) (c : Context) (ws : Readable) (at next after : ℕ) (items all : List Pattern) (h g : ℕ) (y : Placed Pattern) → ClosesPatterns close → PatternsRead close c ws at next items h → Gives goes_same (pattern_in c) ws next (Ok (y, after)) → IsAt ws after close → all ≡ items ++ (y.tree ∷ []) → g ≡ max h y.height → Gives closed (patterns_in close c) ws at (Ok ((all, g), after + 1))
patterns_end close c ws at next after items all h g y n r v s e i = remade (λ u. same_pair (sym e) (omega (arith, i))) (and_then (same_kinds closed) (then_more close c ws at next after items h y n r v) (at_token s.is (on_end close c s.word (drop (after + 1) ws.words) n s.kind_is)))

pub patterns_more : (close : TokenKind) (c : Context) (ws : Readable) (at next after : ℕ) (items all : List Pattern) (h g : ℕ) (y : Placed Pattern) → ClosesPatterns close → PatternsRead close c ws at next items h → Gives goes_same (pattern_in c) ws next (Ok (y, after)) → IsAt ws after k.Comma → all ≡ items ++ (y.tree ∷ []) → g ≡ max h y.height → PatternsRead close c ws at (after + 1) all g
patterns_more close c ws at next after items all h g y n r v s e i = remade (λ q. same_pair (sym (append_assoc items (y.tree ∷ []) (q.0.tree ∷ q.1.0)) ∙ ap (λ u. u ++ (q.0.tree ∷ q.1.0)) (sym e)) (omega (arith, i))) (and_then (same_kinds closed) (then_more close c ws at next after items h y n r v) (at_token s.is (on_comma close c s.word (drop (after + 1) ws.words) n s.kind_is)))

pub patterns_other : (close : TokenKind) (c : Context) (ws : Readable) (at next after : ℕ) (items : List Pattern) (h : ℕ) (y : Placed Pattern) → ClosesPatterns close → PatternsRead close c ws at next items h → Gives goes_same (pattern_in c) ws next (Ok (y, after)) → NoMark k.Comma (drop after ws.words) → NoMark close (drop after ws.words) → IsRefused ws.limits {X = List Pattern × ℕ} closed (patterns_in close c) (drop at ws.words) (drop after ws.words) Syntax
patterns_other close c ws at next after items h y n r v a b = refused_after (same_kinds closed) (then_more close c ws at next after items h y n r v) (more_refused close c (drop after ws.words) a b)

-- ---- Lists

pub list_empty : (c : Context) (ws : Readable) (at : ℕ) (items tail : List Pattern) → IsAt ws at k.RightBracket → items ≡ [] → tail ≡ [] → Gives {X = Listed} closed (pattern_list_in c) ws at (Ok (((items, tail), 0), at + 1))
list_empty c ws at items tail s e i = remade (λ u. ap (λ v. ((v, []), 0)) (sym e) ∙ ap (λ v. ((items, v), 0)) (sym i)) (at_token s.is (on_empty c s.word (drop (at + 1) ws.words) s.kind_is))

-- what was read so far
abbrev pub ItemsRead : Context → Readable → ℕ → ℕ → List Pattern → ℕ → Type 0
ItemsRead c ws at next items h = Passes ws.limits {X = Listed} {Y = Placed Pattern × Listed} closed (pattern_list_in c) (drop at ws.words) (pattern_and_items c) (drop next ws.words) (λ q. ((items ++ (q.0.tree ∷ q.1.0.0), q.1.0.1), max h (max q.0.height q.1.1)))

pub list_begin : (c : Context) (ws : Readable) (at : ℕ) (items : List Pattern) → c.deep ≤ ws.limits.trees → NoMark k.RightBracket (drop at ws.words) → items ≡ [] → ItemsRead c ws at at items 0
list_begin c ws at items b n e = remade (λ q. same_pair (ap (λ v. (v ++ (q.0.tree ∷ q.1.0.0), q.1.0.1)) (sym e)) (omega arith)) (on_items c (drop at ws.words) b n)

pub list_err : (c : Context) (ws : Readable) (at next : ℕ) (items : List Pattern) (h : ℕ) (f : Fault) → ItemsRead c ws at next items h → Gives goes_same (pattern_in c) ws next (Err f) → Gives {X = Listed} closed (pattern_list_in c) ws at (Err f)
list_err c ws at next items h f r g = fault_after ws at next f (same_kinds closed) r (fault_first (pattern_in c) ws next f (behind_item c) (items_spelled c) g)

then_items : (c : Context) (ws : Readable) (at next after : ℕ) (items : List Pattern) (h : ℕ) (y : Placed Pattern) → ItemsRead c ws at next items h → Gives goes_same (pattern_in c) ws next (Ok (y, after)) → Passes ws.limits {X = Listed} {Y = Listed} closed (pattern_list_in c) (drop at ws.words) (items_in c) (drop after ws.words) (λ q. ((items ++ (y.tree ∷ q.0.0), q.0.1), max h (max y.height q.1)))
then_items c ws at next after items h y r g = and_then (same_kinds closed) r (first_of_two (behind_item c) g)

pub list_more : (c : Context) (ws : Readable) (at next after : ℕ) (items all : List Pattern) (h g : ℕ) (y : Placed Pattern) → ItemsRead c ws at next items h → Gives goes_same (pattern_in c) ws next (Ok (y, after)) → IsAt ws after k.Comma → all ≡ items ++ (y.tree ∷ []) → g ≡ max h y.height → ItemsRead c ws at (after + 1) all g
list_more c ws at next after items all h g y r v s e i = remade (λ q. same_pair (ap (λ u. (u, q.1.0.1)) (sym (append_assoc items (y.tree ∷ []) (q.0.tree ∷ q.1.0.0)) ∙ ap (λ u. u ++ (q.0.tree ∷ q.1.0.0)) (sym e))) (omega (arith, i))) (and_then (same_kinds closed) (then_items c ws at next after items h y r v) (at_token s.is (on_next c s.word (drop (after + 1) ws.words) s.kind_is)))

then_end : (c : Context) (ws : Readable) (at next after : ℕ) (items : List Pattern) (h : ℕ) (y : Placed Pattern) → ItemsRead c ws at next items h → Gives goes_same (pattern_in c) ws next (Ok (y, after)) → NoMark k.Comma (drop after ws.words) → Passes ws.limits {X = Listed} {Y = List Pattern × ℕ} closed (pattern_list_in c) (drop at ws.words) (pattern_end_in c) (drop after ws.words) (λ q. ((items ++ (y.tree ∷ []), q.0), max h (max y.height q.1)))
then_end c ws at next after items h y r v n = and_then (same_kinds closed) (then_items c ws at next after items h y r v) (on_stop c (drop after ws.words) n)

pub list_end_err : (c : Context) (ws : Readable) (at next after : ℕ) (items : List Pattern) (h : ℕ) (y : Placed Pattern) (f : Fault) → ItemsRead c ws at next items h → Gives goes_same (pattern_in c) ws next (Ok (y, after)) → NoMark k.Comma (drop after ws.words) → Gives closed (pattern_end_in c) ws after (Err f) → Gives {X = Listed} closed (pattern_list_in c) ws at (Err f)
list_end_err c ws at next after items h y f r v n g = fault_after ws at after f (same_kinds closed) (then_end c ws at next after items h y r v n) g

pub list_end : (c : Context) (ws : Readable) (at next after end : ℕ) (items all tail : List Pattern) (h g d i : ℕ) (y : Placed Pattern) → ItemsRead c ws at next items h → Gives goes_same (pattern_in c) ws next (Ok (y, after)) → NoMark k.Comma (drop after ws.words) → Gives closed (pattern_end_in c) ws after (Ok ((tail, d), end)) → all ≡ items ++ (y.tree ∷ []) → g ≡ max h y.height → i ≡ max g d → Gives {X = Listed} closed (pattern_list_in c) ws at (Ok (((all, tail), i), end))
list_end c ws at next after end items all tail h g d i y r v n t e m w = remade (λ u. same_pair (ap (λ a. (a, tail)) (sym e)) (omega (arith, m, w))) (and_then (same_kinds closed) (then_end c ws at next after items h y r v n) t)

pub end_shut : (c : Context) (ws : Readable) (at : ℕ) (tail : List Pattern) → IsAt ws at k.RightBracket → tail ≡ [] → Gives closed (pattern_end_in c) ws at (Ok ((tail, 0), at + 1))
end_shut c ws at tail s e = remade (λ u. same_pair (sym e) refl) (at_token s.is (on_shut c s.word (drop (at + 1) ws.words) s.kind_is))

pub end_other : (c : Context) (ws : Readable) (at : ℕ) → NoMark k.Bar (drop at ws.words) → NoMark k.RightBracket (drop at ws.words) → IsRefused ws.limits {X = List Pattern × ℕ} closed (pattern_end_in c) (drop at ws.words) (drop at ws.words) Syntax
end_other c ws at a b = end_refused c (drop at ws.words) a b

end_bar : (c : Context) (ws : Readable) (at : ℕ) → IsAt ws at k.Bar → Passes ws.limits {X = List Pattern × ℕ} {Y = Placed Pattern × Unit {0}} closed (pattern_end_in c) (drop at ws.words) (λ q. pattern_in c q.0 ++ mark_in k.RightBracket q.1) (drop (at + 1) ws.words) (λ q. (q.0.tree ∷ [], q.0.height))
end_bar c ws at s = at_token s.is (on_bar c s.word (drop (at + 1) ws.words) s.kind_is)

bracket_behind : Behind {X = Placed Pattern} {Y = Unit {0}} goes_same closed (λ q. mark_in k.RightBracket)
bracket_behind = behind_mark k.RightBracket goes_same closed refl

pub tail_err : (c : Context) (ws : Readable) (at : ℕ) (f : Fault) → IsAt ws at k.Bar → Gives goes_same (pattern_in c) ws (at + 1) (Err f) → Gives closed (pattern_end_in c) ws at (Err f)
tail_err c ws at f s g = fault_after ws at (at + 1) f (same_kinds closed) (end_bar c ws at s) (fault_first (pattern_in c) ws (at + 1) f bracket_behind (mark_spelled k.RightBracket) g)

tail_then : (c : Context) (ws : Readable) (at after : ℕ) (y : Placed Pattern) → IsAt ws at k.Bar → Gives goes_same (pattern_in c) ws (at + 1) (Ok (y, after)) → Passes ws.limits {X = List Pattern × ℕ} {Y = Unit {0}} closed (pattern_end_in c) (drop at ws.words) (mark_in k.RightBracket) (drop after ws.words) (λ u. (y.tree ∷ [], y.height))
tail_then c ws at after y s g = and_then (same_kinds closed) (end_bar c ws at s) (first_of_two bracket_behind g)

pub tail_close_err : (c : Context) (ws : Readable) (at after : ℕ) (y : Placed Pattern) (f : Fault) → IsAt ws at k.Bar → Gives goes_same (pattern_in c) ws (at + 1) (Ok (y, after)) → Gives closed (mark_in k.RightBracket) ws after (Err f) → Gives closed (pattern_end_in c) ws at (Err f)
tail_close_err c ws at after y f s g m = fault_after ws at after f (same_kinds closed) (tail_then c ws at after y s g) m

pub tail_close : (c : Context) (ws : Readable) (at after next : ℕ) (y : Placed Pattern) (items : List Pattern) (u : Unit {0}) → IsAt ws at k.Bar → items ≡ y.tree ∷ [] → Gives goes_same (pattern_in c) ws (at + 1) (Ok (y, after)) → Gives closed (mark_in k.RightBracket) ws after (Ok (u, next)) → Gives closed (pattern_end_in c) ws at (Ok ((items, y.height), next))
tail_close c ws at after next y items u s e g m = remade (λ v. same_pair (sym e) refl) (and_then (same_kinds closed) (tail_then c ws at after y s g) m)
