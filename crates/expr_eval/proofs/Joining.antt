-- Bits that are joined item by item, and a ledger that stands still.
use Rattle.std.proofs.Common.{◌≡◌, ℕ, ◌^◌, ◌<◌, Bool, List, Option, Some, None, IfOk, refl, ap, sym, ◌∙◌, append_assoc, arith}
use Rattle.std.specs.declared.result.Result.{Result as Answer}
use Rattle.std.specs.declared.result.Result.TheVariants.{Ok, Err}
use Rattle.bit_store.specs.Stores.{RoseBy}
use Rattle.term_value.specs.BuiltIns.{joined_bits}
use Rattle.term_value.specs.declared.term.Term.{Term}
use Rattle.expr_eval.specs.Answers.{bit_count}
use Rattle.expr_eval.specs.declared.reason.EvalFault.{EvalFault}

-- a call that moved no bit
pub stands : {R : Type 0} (shown : R → List Bool) (answer : Answer (Term R) (EvalFault R)) (moved : ℕ) → moved < 2 ^ 64 → IfOk answer (λ t. RoseBy (bit_count shown t) moved moved)
stands shown (Ok t) moved h = (0, (omega arith, omega arith))
stands shown (Err fault) moved h = tt

-- ---- bits that are joined
joined_assoc : (a b c : Option (List Bool)) → joined_bits a (joined_bits b c) ≡ joined_bits (joined_bits a b) c
joined_assoc (Some x) (Some y) (Some z) = ap Some (sym (append_assoc x y z))
joined_assoc (Some x) (Some y) None = refl
joined_assoc (Some x) None c = refl
joined_assoc None b c = refl

-- what is left of a list's bits, and what is there
pub next_item : (new old start : List Bool) (item rest left all : Option (List Bool)) → Some new ≡ joined_bits (Some old) item → left ≡ joined_bits item rest
    → joined_bits (Some old) left ≡ joined_bits (Some start) all → joined_bits (Some new) rest ≡ joined_bits (Some start) all
next_item new old start item rest left all n l h =
    ap (λ (o : Option (List Bool)). joined_bits o rest) n ∙ sym (joined_assoc (Some old) item rest) ∙ ap (joined_bits (Some old)) (sym l) ∙ h
