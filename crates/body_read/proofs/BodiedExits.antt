-- What the readers of operands in bodies and guards say at each exit.
use Rattle.std.proofs.Common.{◌≡◌, ℕ, ℤ, ◌+◌, ◌≤◌, ◌<◌, max, IsTrue, List, [], ◌∷◌, ◌++◌, drop, Option, Some, None, Result, Ok, Err, IfOk, refl, sym, ap, subst, ◌∙◌, arith, pos, ◌⊎◌}
use Rattle.erl_syntax.specs.declared.span.Span.{Span}
use Rattle.erl_syntax.specs.declared.token.TokenKind.{TokenKind}
use Rattle.erl_syntax.specs.declared.token.TokenKind.TheVariants as k
use Rattle.erl_syntax.specs.declared.expr.Expr.{Expr}
use Rattle.erl_syntax.specs.declared.expr.Expr.TheVariants as x
use Rattle.erl_syntax.specs.declared.expr.Prefix.{Prefix}
use Rattle.erl_syntax.specs.declared.clause.Alt.{Alt}
use Rattle.erl_syntax.specs.declared.clause.Branch.{Branch}
use Rattle.erl_syntax.specs.Word.{Word}
use Rattle.erl_syntax.specs.Operators.{prefix_of}
use Rattle.erl_syntax.specs.Grammar.{Context, InBody, InSize, under, inside}
use Rattle.pattern_read.specs.Cursor.{StandsAt, number_of}
use Rattle.pattern_read.specs.declared.cursor.Numbered.{Numbered}
use Rattle.pattern_read.specs.declared.placed.Placed.{Placed}
use Rattle.body_read.specs.declared.site.Site.{Site}
use Rattle.body_read.specs.declared.site.Site.TheVariants.{Body as AsBody, Guard as AsGuard}
use Rattle.pattern_read.specs.declared.fault.Cause.TheVariants.{Syntax, TooDeep}
use Rattle.pattern_read.specs.declared.fault.Fault.{Fault}
use Rattle.pattern_read.specs.Reading.{Passes, IsRefused, Gives, closed}
use Rattle.pattern_read.specs.Wanted.{calls, extends, level_in, operand_in, exprs_in, mark_in}
use Rattle.body_read.specs.WantedExprs.{mode_of, in_site, in_body, common_in, list_in, bits_in, alts_in, branches_in}
use Rattle.body_read.specs.Sites.{begins_block, IsBlock, of_alts, case_in}
use Rattle.pattern_read.proofs.Passing.{Behind, Spelled, same_kinds, closed_within, and_then, refused_after, first_of_two, at_token, refused_at, remade, fault_after, fault_first}
use Rattle.pattern_read.proofs.Levels.{same_placed}
use Rattle.pattern_read.proofs.Operands.{behind_mark, mark_spelled}
use Rattle.pattern_read.proofs.Exits.{gives_on}
use Rattle.body_read.proofs.BodiedBegins.{clause_words, some_alt, alts_spell}
use Rattle.body_read.proofs.BodiedCommon.{only_variable, only_integer, only_character, only_string, only_bits, only_paren, bits_deep, paren_deep, no_common_end, no_common, common_none}
use Rattle.body_read.proofs.BodiedOperands.{on_tuple, on_list, on_case, on_receive, on_if, behind_value, value_spelled, tuple_deep, list_deep, block_deep, none_else_end, none_else, only_common}
use Rattle.pattern_read.specs.Cursor.{Readable}
use Rattle.erl_syntax.specs.Grammar.{Limits}

-- ---- Operands

pub operand_at_end : (c : Context) (ws : Readable) (at : ℕ) → drop at ws.words ≡ [] → IsRefused ws.limits {X = Placed Expr} calls (operand_in c) (drop at ws.words) (drop at ws.words) Syntax
operand_at_end c ws at e = refused_at e (refused_after (closed_within calls) (only_common c [] none_else_end) (common_none c [] no_common_end))

pub as_body : (s : Site) (deep brackets : ℕ) (ws : Readable) (at : ℕ) (r : Result (Placed Expr × ℕ) Fault) → s ≡ AsBody → Gives calls (operand_in (in_body deep brackets)) ws at r → Gives calls (operand_in (in_site s deep brackets)) ws at r
as_body s deep brackets ws at r e g = let P : Site → Type 0 = λ v. Gives calls (operand_in (in_site v deep brackets)) ws at r in subst P (sym e) g

no_op : (found : Option Prefix) → ((op : Prefix) → found ≡ Some op → ⊥) → found ≡ None
no_op None f = refl
no_op (Some op) f = absurd (f op refl)

a_body : (s : Site) → mode_of s ≡ InBody → s ≡ AsBody
a_body AsBody h = refl
a_body AsGuard h = cc

pub operand_common : (s : Site) (deep brackets : ℕ) (ws : Readable) (at : ℕ) (n : Numbered) (r : Result (Placed Expr × ℕ) Fault) → StandsAt ws at n → ((op : Prefix) → prefix_of n.token.kind ≡ Some op → ⊥) → (n.token.kind ≡ k.Atom → ⊥) → (n.token.kind ≡ k.Question → ⊥) → (n.token.kind ≡ k.LeftBrace → ⊥) → (n.token.kind ≡ k.LeftBracket → ⊥) → (IsBlock s n.token.kind → ⊥) →
    Gives closed (common_in (in_site s deep brackets)) ws at r → Gives calls (operand_in (in_site s deep brackets)) ws at r
operand_common s deep brackets ws at n r w a b d e f i g =
    let c : Context = in_site s deep brackets in
    let P : List Word → Type 0 = λ v. Passes ws.limits {X = Placed Expr} {Y = Placed Expr} calls (operand_in c) v (common_in c) v (λ p. p) in
    gives_on ws at at r (closed_within calls) (subst P (sym w.is) (only_common c (w.word ∷ drop (at + 1) ws.words) (none_else w.word (drop (at + 1) ws.words) (record {
      prefix = no_op (prefix_of w.word.kind) (λ op j. a op (ap prefix_of (sym w.kind) ∙ j));
      atom = λ j. b (sym w.kind ∙ j);
      question = λ j. d (sym w.kind ∙ j);
      brace = λ j. e (sym w.kind ∙ j);
      bracket = λ j. f (sym w.kind ∙ j);
      block = λ j h. i (a_body s j, ap begins_block (sym w.kind) ∙ h);
    })))) g

-- ---- Tuples

pub operand_tuple_deep : (c : Context) (ws : Readable) (at : ℕ) (n : Numbered) → (c.mode ≡ InSize → ⊥) → StandsAt ws at n → n.token.kind ≡ k.LeftBrace → ws.limits.brackets ≤ c.open_ → IsRefused ws.limits {X = Placed Expr} calls (operand_in c) (drop at ws.words) (drop at ws.words) TooDeep
operand_tuple_deep c ws at n m w h b = refused_at w.is (tuple_deep c w.word (drop (at + 1) ws.words) m (w.kind ∙ h) b)

operand_tuple : (c : Context) (ws : Readable) (at : ℕ) (n : Numbered) → (c.mode ≡ InSize → ⊥) → StandsAt ws at n → n.token.kind ≡ k.LeftBrace → c.open_ < ws.limits.brackets → Passes ws.limits {X = Placed Expr} {Y = List Expr × ℕ} calls (operand_in c) (drop at ws.words) (exprs_in k.RightBrace (inside (under c))) (drop (at + 1) ws.words) (λ r. record { at = n.token.span; tree = x.Tuple n.token.span r.0; height = r.1 + 1 })
operand_tuple c ws at n m w h b = remade (λ r. same_placed w.place (ap (λ v. x.Tuple v r.0) w.place) refl) (at_token w.is (on_tuple c w.word (drop (at + 1) ws.words) m (w.kind ∙ h) b))

pub operand_tuple_err : (c : Context) (ws : Readable) (at : ℕ) (n : Numbered) (f : Fault) → (c.mode ≡ InSize → ⊥) → StandsAt ws at n → n.token.kind ≡ k.LeftBrace → c.open_ < ws.limits.brackets → Gives closed (exprs_in k.RightBrace (inside (under c))) ws (at + 1) (Err f) → Gives calls (operand_in c) ws at (Err f)
operand_tuple_err c ws at n f m w h b g = fault_after ws at (at + 1) f (closed_within calls) (operand_tuple c ws at n m w h b) g

pub operand_tuple_ok : (c : Context) (ws : Readable) (at next : ℕ) (n : Numbered) (items : List Expr) (d : ℕ) → (c.mode ≡ InSize → ⊥) → StandsAt ws at n → n.token.kind ≡ k.LeftBrace → c.open_ < ws.limits.brackets → Gives closed (exprs_in k.RightBrace (inside (under c))) ws (at + 1) (Ok ((items, d), next)) → Gives calls (operand_in c) ws at (Ok (record { at = n.token.span; tree = x.Tuple n.token.span items; height = d + 1 }, next))
operand_tuple_ok c ws at next n items d m w h b g = and_then (closed_within calls) (operand_tuple c ws at n m w h b) g

-- ---- Lists

pub operand_list_deep : (c : Context) (ws : Readable) (at : ℕ) (n : Numbered) → (c.mode ≡ InSize → ⊥) → StandsAt ws at n → n.token.kind ≡ k.LeftBracket → ws.limits.brackets ≤ c.open_ → IsRefused ws.limits {X = Placed Expr} calls (operand_in c) (drop at ws.words) (drop at ws.words) TooDeep
operand_list_deep c ws at n m w h b = refused_at w.is (list_deep c w.word (drop (at + 1) ws.words) m (w.kind ∙ h) b)

operand_list : (c : Context) (ws : Readable) (at : ℕ) (n : Numbered) → (c.mode ≡ InSize → ⊥) → StandsAt ws at n → n.token.kind ≡ k.LeftBracket → c.open_ < ws.limits.brackets → Passes ws.limits {X = Placed Expr} {Y = Expr × ℕ} calls (operand_in c) (drop at ws.words) (list_in c n.token.span) (drop (at + 1) ws.words) (λ r. record { at = n.token.span; tree = r.0; height = r.1 })
operand_list c ws at n m w h b =
    let P : Span → Type 0 = λ v. Passes ws.limits {X = Placed Expr} {Y = Expr × ℕ} calls (operand_in c) (drop at ws.words) (list_in c v) (drop (at + 1) ws.words) (λ r. record { at = v; tree = r.0; height = r.1 }) in
    subst P w.place (at_token w.is (on_list c w.word (drop (at + 1) ws.words) m (w.kind ∙ h) b))

pub operand_list_err : (c : Context) (ws : Readable) (at : ℕ) (n : Numbered) (f : Fault) → (c.mode ≡ InSize → ⊥) → StandsAt ws at n → n.token.kind ≡ k.LeftBracket → c.open_ < ws.limits.brackets → Gives closed (list_in c n.token.span) ws (at + 1) (Err f) → Gives calls (operand_in c) ws at (Err f)
operand_list_err c ws at n f m w h b g = fault_after ws at (at + 1) f (closed_within calls) (operand_list c ws at n m w h b) g

pub operand_list_ok : (c : Context) (ws : Readable) (at next : ℕ) (n : Numbered) (e : Expr) (d : ℕ) → (c.mode ≡ InSize → ⊥) → StandsAt ws at n → n.token.kind ≡ k.LeftBracket → c.open_ < ws.limits.brackets → Gives closed (list_in c n.token.span) ws (at + 1) (Ok ((e, d), next)) → Gives calls (operand_in c) ws at (Ok (record { at = n.token.span; tree = e; height = d }, next))
operand_list_ok c ws at next n e d m w h b g = and_then (closed_within calls) (operand_list c ws at n m w h b) g

-- ---- Blocks

pub operand_block_deep : (c : Context) (ws : Readable) (at : ℕ) (n : Numbered) → c.mode ≡ InBody → StandsAt ws at n → IsTrue (begins_block n.token.kind) → (ws.limits.brackets ≤ c.open_ ⊎ ws.limits.trees < c.deep + 1) → IsRefused ws.limits {X = Placed Expr} calls (operand_in c) (drop at ws.words) (drop at ws.words) TooDeep
operand_block_deep c ws at n m w h b = refused_at w.is (block_deep c w.word (drop (at + 1) ws.words) m (ap begins_block w.kind ∙ h) b)

operand_receive : (c : Context) (ws : Readable) (at : ℕ) (n : Numbered) → c.mode ≡ InBody → StandsAt ws at n → n.token.kind ≡ k.Receive → c.open_ < ws.limits.brackets → c.deep + 1 ≤ ws.limits.trees → Passes ws.limits {X = Placed Expr} {Y = List Alt × ℕ} calls (operand_in c) (drop at ws.words) (alts_in (inside (under c))) (drop (at + 1) ws.words) (λ r. record { at = n.token.span; tree = x.Receive n.token.span r.0; height = r.1 + 1 })
operand_receive c ws at n m w h b a = remade (λ r. same_placed w.place (ap (λ v. x.Receive v r.0) w.place) refl) (at_token w.is (on_receive c w.word (drop (at + 1) ws.words) m (w.kind ∙ h) b a))

pub operand_receive_err : (c : Context) (ws : Readable) (at : ℕ) (n : Numbered) (f : Fault) → c.mode ≡ InBody → StandsAt ws at n → n.token.kind ≡ k.Receive → c.open_ < ws.limits.brackets → c.deep + 1 ≤ ws.limits.trees → Gives closed (alts_in (inside (under c))) ws (at + 1) (Err f) → Gives calls (operand_in c) ws at (Err f)
operand_receive_err c ws at n f m w h b a g = fault_after ws at (at + 1) f (closed_within calls) (operand_receive c ws at n m w h b a) g

pub operand_receive_ok : (c : Context) (ws : Readable) (at next : ℕ) (n : Numbered) (alts : List Alt) (d : ℕ) → c.mode ≡ InBody → StandsAt ws at n → n.token.kind ≡ k.Receive → c.open_ < ws.limits.brackets → c.deep + 1 ≤ ws.limits.trees → Gives closed (alts_in (inside (under c))) ws (at + 1) (Ok ((alts, d), next)) → Gives calls (operand_in c) ws at (Ok (record { at = n.token.span; tree = x.Receive n.token.span alts; height = d + 1 }, next))
operand_receive_ok c ws at next n alts d m w h b a g = and_then (closed_within calls) (operand_receive c ws at n m w h b a) g

pub last_block : (kind : TokenKind) → IsTrue (begins_block kind) → (kind ≡ k.Case → ⊥) → (kind ≡ k.Receive → ⊥) → kind ≡ k.If
last_block k.Case h a b = absurd (a refl)
last_block k.Receive h a b = absurd (b refl)
last_block k.If h a b = refl
last_block _ h a b = cc

operand_if : (c : Context) (ws : Readable) (at : ℕ) (n : Numbered) → c.mode ≡ InBody → StandsAt ws at n → n.token.kind ≡ k.If → c.open_ < ws.limits.brackets → c.deep + 1 ≤ ws.limits.trees → Passes ws.limits {X = Placed Expr} {Y = List Branch × ℕ} calls (operand_in c) (drop at ws.words) (branches_in (inside (under c))) (drop (at + 1) ws.words) (λ r. record { at = n.token.span; tree = x.If n.token.span r.0; height = r.1 + 1 })
operand_if c ws at n m w h b a = remade (λ r. same_placed w.place (ap (λ v. x.If v r.0) w.place) refl) (at_token w.is (on_if c w.word (drop (at + 1) ws.words) m (w.kind ∙ h) b a))

pub operand_if_err : (c : Context) (ws : Readable) (at : ℕ) (n : Numbered) (f : Fault) → c.mode ≡ InBody → StandsAt ws at n → n.token.kind ≡ k.If → c.open_ < ws.limits.brackets → c.deep + 1 ≤ ws.limits.trees → Gives closed (branches_in (inside (under c))) ws (at + 1) (Err f) → Gives calls (operand_in c) ws at (Err f)
operand_if_err c ws at n f m w h b a g = fault_after ws at (at + 1) f (closed_within calls) (operand_if c ws at n m w h b a) g

pub operand_if_ok : (c : Context) (ws : Readable) (at next : ℕ) (n : Numbered) (branches : List Branch) (d : ℕ) → c.mode ≡ InBody → StandsAt ws at n → n.token.kind ≡ k.If → c.open_ < ws.limits.brackets → c.deep + 1 ≤ ws.limits.trees → Gives closed (branches_in (inside (under c))) ws (at + 1) (Ok ((branches, d), next)) → Gives calls (operand_in c) ws at (Ok (record { at = n.token.span; tree = x.If n.token.span branches; height = d + 1 }, next))
operand_if_ok c ws at next n branches d m w h b a g = and_then (closed_within calls) (operand_if c ws at n m w h b a) g

operand_case : (c : Context) (ws : Readable) (at : ℕ) (n : Numbered) → c.mode ≡ InBody → StandsAt ws at n → n.token.kind ≡ k.Case → c.open_ < ws.limits.brackets → c.deep + 1 ≤ ws.limits.trees →
    Passes ws.limits {X = Placed Expr} {Y = Placed Expr × (List Alt × ℕ)} calls (operand_in c) (drop at ws.words) (case_in (inside (under c))) (drop (at + 1) ws.words) (λ p. record { at = n.token.span; tree = x.Case n.token.span (p.0.tree ∷ []) p.1.0; height = max p.0.height p.1.1 + 1 })
operand_case c ws at n m w h b a = remade (λ p. same_placed w.place (ap (λ v. x.Case v (p.0.tree ∷ []) p.1.0) w.place) refl) (at_token w.is (on_case c w.word (drop (at + 1) ws.words) m (w.kind ∙ h) b a))

pub operand_case_err : (c : Context) (ws : Readable) (at : ℕ) (n : Numbered) (f : Fault) → c.mode ≡ InBody → StandsAt ws at n → n.token.kind ≡ k.Case → c.open_ < ws.limits.brackets → c.deep + 1 ≤ ws.limits.trees → Gives closed (case_in (inside (under c))) ws (at + 1) (Err f) → Gives calls (operand_in c) ws at (Err f)
operand_case_err c ws at n f m w h b a g = fault_after ws at (at + 1) f (closed_within calls) (operand_case c ws at n m w h b a) g

pub operand_case_ok : (c : Context) (ws : Readable) (at next : ℕ) (n : Numbered) (y : Placed Expr) (alts : List Alt) (value : List Expr) (d e : ℕ) → c.mode ≡ InBody → StandsAt ws at n → n.token.kind ≡ k.Case → c.open_ < ws.limits.brackets → c.deep + 1 ≤ ws.limits.trees → value ≡ y.tree ∷ [] → e ≡ max y.height d + 1 → Gives closed (case_in (inside (under c))) ws (at + 1) (Ok ((y, (alts, d)), next)) → Gives calls (operand_in c) ws at (Ok (record { at = n.token.span; tree = x.Case n.token.span value alts; height = e }, next))
operand_case_ok c ws at next n y alts value d e m w h b a i j g = remade (λ v. same_placed refl (ap (λ t. x.Case n.token.span t alts) (sym i)) (sym j)) (and_then (closed_within calls) (operand_case c ws at n m w h b a) g)

-- ---- Behind `case`

pub value_err : (c : Context) (ws : Readable) (at : ℕ) (f : Fault) → Gives (extends 0) (level_in 0 c) ws at (Err f) → Gives closed (case_in c) ws at (Err f)
value_err c ws at f g = fault_first (level_in 0 c) ws at f (behind_value c closed) (value_spelled c) g

value_then : (c : Context) (ws : Readable) (at after : ℕ) (y : Placed Expr) → Gives (extends 0) (level_in 0 c) ws at (Ok (y, after)) → Passes ws.limits {X = Placed Expr × (List Alt × ℕ)} {Y = List Alt × ℕ} closed (case_in c) (drop at ws.words) (of_alts c y) (drop after ws.words) (λ r. (y, r))
value_then c ws at after y g = first_of_two (behind_value c closed) g

-- `of` and what stands behind it are two
of_first : (c : Context) (y : Placed Expr) (ws : Readable) (at : ℕ) → Passes ws.limits {X = List Alt × ℕ} {Y = Unit {0} × (List Alt × ℕ)} closed (of_alts c y) (drop at ws.words) (λ p. mark_in k.Of p.0 ++ alts_in c p.1) (drop at ws.words) (λ p. p.1)
of_first c y ws at = record {
  front = [];
  whole = refl;
  back = λ l v p gs w d. d;
  forth = λ l r gs w f s d. ((tt, r), refl, d);
}

of_behind : (c : Context) → Behind {X = Unit {0}} {Y = List Alt × ℕ} closed closed (λ u r. alts_in c r)
of_behind c = record { behind = λ l p q gs f t w h d. cc }

alts_spelled : {most : Limits} (c : Context) → Spelled most {X = Unit {0}} {Y = List Alt × ℕ} (λ u r. alts_in c r) (clause_words [])
alts_spelled c = record { tree = λ u. (some_alt ∷ [], 1); spelled = λ l v u gs z d. alts_spell l c gs z d }

before_of : (c : Context) (ws : Readable) (at after : ℕ) (y : Placed Expr) → Gives (extends 0) (level_in 0 c) ws at (Ok (y, after)) → Passes ws.limits {X = Placed Expr × (List Alt × ℕ)} {Y = Unit {0} × (List Alt × ℕ)} closed (case_in c) (drop at ws.words) (λ p. mark_in k.Of p.0 ++ alts_in c p.1) (drop after ws.words) (λ p. (y, p.1))
before_of c ws at after y g = and_then (same_kinds closed) (value_then c ws at after y g) (of_first c y ws after)

pub of_err : (c : Context) (ws : Readable) (at after : ℕ) (y : Placed Expr) (f : Fault) → Gives (extends 0) (level_in 0 c) ws at (Ok (y, after)) → Gives closed (mark_in k.Of) ws after (Err f) → Gives closed (case_in c) ws at (Err f)
of_err c ws at after y f g q = fault_after ws at after f (same_kinds closed) (before_of c ws at after y g) (fault_first (mark_in k.Of) ws after f (of_behind c) (alts_spelled c) q)

before_alts : (c : Context) (ws : Readable) (at after first : ℕ) (y : Placed Expr) (u : Unit {0}) → Gives (extends 0) (level_in 0 c) ws at (Ok (y, after)) → Gives closed (mark_in k.Of) ws after (Ok (u, first)) → Passes ws.limits {X = Placed Expr × (List Alt × ℕ)} {Y = List Alt × ℕ} closed (case_in c) (drop at ws.words) (alts_in c) (drop first ws.words) (λ r. (y, r))
before_alts c ws at after first y u g q = and_then (same_kinds closed) (before_of c ws at after y g) (first_of_two (of_behind c) q)

pub alts_err : (c : Context) (ws : Readable) (at after first : ℕ) (y : Placed Expr) (u : Unit {0}) (f : Fault) → Gives (extends 0) (level_in 0 c) ws at (Ok (y, after)) → Gives closed (mark_in k.Of) ws after (Ok (u, first)) → Gives closed (alts_in c) ws first (Err f) → Gives closed (case_in c) ws at (Err f)
alts_err c ws at after first y u f g q r = fault_after ws at first f (same_kinds closed) (before_alts c ws at after first y u g q) r

pub case_parts_ok : (c : Context) (ws : Readable) (at after first next : ℕ) (y : Placed Expr) (u : Unit {0}) (alts : List Alt) (d : ℕ) → Gives (extends 0) (level_in 0 c) ws at (Ok (y, after)) → Gives closed (mark_in k.Of) ws after (Ok (u, first)) → Gives closed (alts_in c) ws first (Ok ((alts, d), next)) → Gives closed (case_in c) ws at (Ok ((y, (alts, d)), next))
case_parts_ok c ws at after first next y u alts d g q r = and_then (same_kinds closed) (before_alts c ws at after first y u g q) r

-- ---- What may stand as a segment's value too

pub common_at_end : (c : Context) (ws : Readable) (at : ℕ) → drop at ws.words ≡ [] → IsRefused ws.limits {X = Placed Expr} closed (common_in c) (drop at ws.words) (drop at ws.words) Syntax
common_at_end c ws at e = refused_at e (common_none c [] no_common_end)

pub common_bits_deep : (c : Context) (ws : Readable) (at : ℕ) (n : Numbered) → (c.mode ≡ InSize → ⊥) → StandsAt ws at n → n.token.kind ≡ k.LeftBits → ws.limits.brackets ≤ c.open_ → IsRefused ws.limits {X = Placed Expr} closed (common_in c) (drop at ws.words) (drop at ws.words) TooDeep
common_bits_deep c ws at n m w h b = refused_at w.is (bits_deep c w.word (drop (at + 1) ws.words) m (w.kind ∙ h) b)

common_bits : (c : Context) (ws : Readable) (at : ℕ) (n : Numbered) → (c.mode ≡ InSize → ⊥) → StandsAt ws at n → n.token.kind ≡ k.LeftBits → c.open_ < ws.limits.brackets → Passes ws.limits {X = Placed Expr} {Y = Expr × ℕ} closed (common_in c) (drop at ws.words) (bits_in c n.token.span) (drop (at + 1) ws.words) (λ r. record { at = n.token.span; tree = r.0; height = r.1 })
common_bits c ws at n m w h b =
    let P : Span → Type 0 = λ v. Passes ws.limits {X = Placed Expr} {Y = Expr × ℕ} closed (common_in c) (drop at ws.words) (bits_in c v) (drop (at + 1) ws.words) (λ r. record { at = v; tree = r.0; height = r.1 }) in
    subst P w.place (at_token w.is (only_bits c w.word (drop (at + 1) ws.words) m (w.kind ∙ h) b))

pub common_bits_err : (c : Context) (ws : Readable) (at : ℕ) (n : Numbered) (f : Fault) → (c.mode ≡ InSize → ⊥) → StandsAt ws at n → n.token.kind ≡ k.LeftBits → c.open_ < ws.limits.brackets → Gives closed (bits_in c n.token.span) ws (at + 1) (Err f) → Gives closed (common_in c) ws at (Err f)
common_bits_err c ws at n f m w h b g = fault_after ws at (at + 1) f (same_kinds closed) (common_bits c ws at n m w h b) g

pub common_bits_ok : (c : Context) (ws : Readable) (at next : ℕ) (n : Numbered) (e : Expr) (d : ℕ) → (c.mode ≡ InSize → ⊥) → StandsAt ws at n → n.token.kind ≡ k.LeftBits → c.open_ < ws.limits.brackets → Gives closed (bits_in c n.token.span) ws (at + 1) (Ok ((e, d), next)) → Gives closed (common_in c) ws at (Ok (record { at = n.token.span; tree = e; height = d }, next))
common_bits_ok c ws at next n e d m w h b g = and_then (same_kinds closed) (common_bits c ws at n m w h b) g

pub common_paren_deep : (c : Context) (ws : Readable) (at : ℕ) (n : Numbered) → StandsAt ws at n → n.token.kind ≡ k.LeftParen → ws.limits.brackets ≤ c.open_ → IsRefused ws.limits {X = Placed Expr} closed (common_in c) (drop at ws.words) (drop at ws.words) TooDeep
common_paren_deep c ws at n w h b = refused_at w.is (paren_deep c w.word (drop (at + 1) ws.words) (w.kind ∙ h) b)

common_paren : (c : Context) (ws : Readable) (at : ℕ) (n : Numbered) → StandsAt ws at n → n.token.kind ≡ k.LeftParen → c.open_ < ws.limits.brackets → Passes ws.limits {X = Placed Expr} {Y = Placed Expr × Unit {0}} closed (common_in c) (drop at ws.words) (λ p. level_in 0 (inside c) p.0 ++ mark_in k.RightParen p.1) (drop (at + 1) ws.words) (λ p. record { at = n.token.span; tree = p.0.tree; height = p.0.height })
common_paren c ws at n w h b = remade (λ p. same_placed w.place refl refl) (at_token w.is (only_paren c w.word (drop (at + 1) ws.words) (w.kind ∙ h) b))

paren_behind : Behind {X = Placed Expr} {Y = Unit {0}} (extends 0) closed (λ p. mark_in k.RightParen)
paren_behind = behind_mark k.RightParen (extends 0) closed refl

pub common_inner_err : (c : Context) (ws : Readable) (at : ℕ) (n : Numbered) (f : Fault) → StandsAt ws at n → n.token.kind ≡ k.LeftParen → c.open_ < ws.limits.brackets → Gives (extends 0) (level_in 0 (inside c)) ws (at + 1) (Err f) → Gives closed (common_in c) ws at (Err f)
common_inner_err c ws at n f w h b g = fault_after ws at (at + 1) f (same_kinds closed) (common_paren c ws at n w h b) (fault_first (level_in 0 (inside c)) ws (at + 1) f paren_behind (mark_spelled k.RightParen) g)

common_inner : (c : Context) (ws : Readable) (at after : ℕ) (n : Numbered) (y : Placed Expr) → StandsAt ws at n → n.token.kind ≡ k.LeftParen → c.open_ < ws.limits.brackets → Gives (extends 0) (level_in 0 (inside c)) ws (at + 1) (Ok (y, after)) → Passes ws.limits {X = Placed Expr} {Y = Unit {0}} closed (common_in c) (drop at ws.words) (mark_in k.RightParen) (drop after ws.words) (λ u. record { at = n.token.span; tree = y.tree; height = y.height })
common_inner c ws at after n y w h b g = and_then (same_kinds closed) (common_paren c ws at n w h b) (first_of_two paren_behind g)

pub common_close_err : (c : Context) (ws : Readable) (at after : ℕ) (n : Numbered) (y : Placed Expr) (f : Fault) → StandsAt ws at n → n.token.kind ≡ k.LeftParen → c.open_ < ws.limits.brackets → Gives (extends 0) (level_in 0 (inside c)) ws (at + 1) (Ok (y, after)) → Gives closed (mark_in k.RightParen) ws after (Err f) → Gives closed (common_in c) ws at (Err f)
common_close_err c ws at after n y f w h b g m = fault_after ws at after f (same_kinds closed) (common_inner c ws at after n y w h b g) m

pub common_close : (c : Context) (ws : Readable) (at after next : ℕ) (n : Numbered) (y : Placed Expr) (u : Unit {0}) → StandsAt ws at n → n.token.kind ≡ k.LeftParen → c.open_ < ws.limits.brackets → Gives (extends 0) (level_in 0 (inside c)) ws (at + 1) (Ok (y, after)) → Gives closed (mark_in k.RightParen) ws after (Ok (u, next)) → Gives closed (common_in c) ws at (Ok (record { at = n.token.span; tree = y.tree; height = y.height }, next))
common_close c ws at after next n y u w h b g m = and_then (same_kinds closed) (common_inner c ws at after n y w h b g) m

-- ---- Literals

pub literal_variable : (ws : Readable) (at : ℕ) (n : Numbered) (name : List ℕ) → (w : StandsAt ws at n) → n.token.kind ≡ k.Variable → name ≡ w.word.chars → (c : Context) → (c.mode ≡ InSize → ⊥) → Gives closed (common_in c) ws at (Ok (record { at = n.token.span; tree = x.Var n.token.span name; height = 1 }, at + 1))
literal_variable ws at n name w h e c m = remade (λ u. same_placed w.place (ap (λ v. x.Var v w.word.chars) w.place ∙ ap (λ v. x.Var n.token.span v) (sym e)) refl) (at_token w.is (only_variable c w.word (drop (at + 1) ws.words) (w.kind ∙ h)))

pub literal_integer : (ws : Readable) (at : ℕ) (n : Numbered) (z : ℤ) → (w : StandsAt ws at n) → n.token.kind ≡ k.Integer → z ≡ pos n.value → (c : Context) → (c.mode ≡ InSize → ⊥) → Gives closed (common_in c) ws at (Ok (record { at = n.token.span; tree = x.Int n.token.span z; height = 1 }, at + 1))
literal_integer ws at n z w h e c m = remade (λ u. same_placed w.place (ap (λ v. x.Int v (pos w.word.number)) w.place ∙ ap (λ v. x.Int n.token.span (pos v)) (w.number ∙ ap (number_of n) h) ∙ ap (λ v. x.Int n.token.span v) (sym e)) refl) (at_token w.is (only_integer c w.word (drop (at + 1) ws.words) (w.kind ∙ h)))

pub literal_character : (ws : Readable) (at : ℕ) (n : Numbered) → (w : StandsAt ws at n) → n.token.kind ≡ k.Character → (c : Context) → (c.mode ≡ InSize → ⊥) → Gives closed (common_in c) ws at (Ok (record { at = n.token.span; tree = x.Char n.token.span n.number; height = 1 }, at + 1))
literal_character ws at n w h c m = remade (λ u. same_placed w.place (ap (λ v. x.Char v w.word.number) w.place ∙ ap (λ v. x.Char n.token.span v) (w.number ∙ ap (number_of n) h)) refl) (at_token w.is (only_character c w.word (drop (at + 1) ws.words) (w.kind ∙ h)))

pub literal_string : (ws : Readable) (at : ℕ) (n : Numbered) (chars : List ℕ) → (w : StandsAt ws at n) → n.token.kind ≡ k.Str → chars ≡ w.word.chars → (c : Context) → (c.mode ≡ InSize → ⊥) → Gives closed (common_in c) ws at (Ok (record { at = n.token.span; tree = x.Str n.token.span chars; height = 1 }, at + 1))
literal_string ws at n chars w h e c m = remade (λ u. same_placed w.place (ap (λ v. x.Str v w.word.chars) w.place ∙ ap (λ v. x.Str n.token.span v) (sym e)) refl) (at_token w.is (only_string c w.word (drop (at + 1) ws.words) m (w.kind ∙ h)))

pub literal_none : (ws : Readable) (at : ℕ) (n : Numbered) → StandsAt ws at n → (n.token.kind ≡ k.Variable → ⊥) → (n.token.kind ≡ k.Integer → ⊥) → (n.token.kind ≡ k.Character → ⊥) → (n.token.kind ≡ k.Str → ⊥) → (n.token.kind ≡ k.LeftBits → ⊥) → (n.token.kind ≡ k.LeftParen → ⊥) → (c : Context) → (c.mode ≡ InSize → ⊥) → IsRefused ws.limits {X = Placed Expr} closed (common_in c) (drop at ws.words) (drop at ws.words) Syntax
literal_none ws at n w a b d e f g c m = refused_at w.is (common_none c (w.word ∷ drop (at + 1) ws.words) (no_common w.word (drop (at + 1) ws.words) (record {
  variable = λ j. a (sym w.kind ∙ j);
  integer = λ j. b (sym w.kind ∙ j);
  character = λ j. d (sym w.kind ∙ j);
  string = λ j. e (sym w.kind ∙ j);
  bits = λ j. f (sym w.kind ∙ j);
  paren = λ j. g (sym w.kind ∙ j);
})))

pub literal_low : (most : Limits) (deep : ℕ) (r : Result (Placed Expr × ℕ) Fault) → deep ≤ most.trees → IfOk r (λ v. v.0.height ≡ 1) → IfOk r (λ v. (1 ≤ v.0.height) × (deep + v.0.height ≤ most.trees + 1))
literal_low most deep (Ok v) h e = (omega (arith, e), omega (arith, e))
literal_low most deep (Err f) h e = tt
