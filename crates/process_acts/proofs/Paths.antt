-- Runs of contractions, one behind another.
use Rattle.std.proofs.Common.{◌≡◌, ℕ, ◌+◌, sym, subst, add_assoc, arith}
use Rattle.term_value.specs.Tree.{Module}
use Rattle.term_value.specs.Local.{Local, Contracts, stands, contracts}
use Rattle.process_acts.specs.Acts.{Runs, IsTurn, IsAsking}
use Rattle.process_acts.specs.declared.asking.Asking.{Asking}
use Rattle.process_acts.specs.declared.asking.Turn.{Turn}
use Rattle.process_acts.specs.declared.asking.Turn.TheVariants.{Asks}

pub both : (code : Module) (l mid k : Local) (cost made costs mades : ℕ) → Contracts code l cost made mid → Contracts code mid costs mades k → Contracts code l (cost + costs) (made + mades) k
both code _ _ k _ _ costs mades (stands l) d =
    let P : ℕ → Type 0 = λ n. Contracts code l n (0 + mades) k in
    let Q : ℕ → Type 0 = λ n. Contracts code l costs n k in
    let a : costs ≡ 0 + costs = omega arith in
    let b : mades ≡ 0 + mades = omega arith in
    subst P a (subst Q b d)
both code _ _ k _ _ costs mades (contracts l next mid cost made rest more e c) d =
    let P : ℕ → Type 0 = λ n. Contracts code l n ((made + more) + mades) k in
    let Q : ℕ → Type 0 = λ n. Contracts code l (cost + (rest + costs)) n k in
    subst P (sym (add_assoc cost rest costs))
    (subst Q (sym (add_assoc made more mades)) (contracts l next k cost made (rest + costs) (more + mades) e (both code next mid k rest more costs mades c d)))

pub none : (code : Module) (l : Local) → Runs code l l
none code l = record { cost = 0; made = 0; path = stands l }

pub runs_joined : (code : Module) (l mid k : Local) → Runs code l mid → Runs code mid k → Runs code l k
runs_joined code l mid k a b = record { cost = a.cost + b.cost; made = a.made + b.made; path = both code l mid k a.cost a.made b.cost b.made a.path b.path }

-- a run of an equal module behind another
pub on_from : (code other : Module) (l mid k : Local) → other ≡ code → Runs code l mid → Runs other mid k → Runs code l k
on_from code other l mid k e a b = runs_joined code l mid k a (subst (λ (x : Module). Runs x mid k) e b)

pub turn_asks : (code : Module) (l : Local) (waits : Type 0) (t : Turn) (ask : Asking) → t ≡ Asks ask → IsTurn code l waits t → waits × IsAsking code l ask
turn_asks code l waits t ask e h = subst (λ (x : Turn). IsTurn code l waits x) e h
