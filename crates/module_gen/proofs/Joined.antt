-- The text as the function writes it: three fixed texts with the two numbers between them.
use Rattle.std.proofs.Common.{◌≡◌, ℕ, List, ◌++◌, codes, decimal, drop, ap, ◌∙◌, append_assoc}
use Rattle.module_gen.specs.Generated.{generated}
use Rattle.module_gen.specs.declared.TheConstants.{BEFORE_SEED, BEFORE_SIZE, BEHIND_SIZE}

-- two lines with a word inside each
two_lines : (a d b n m e k rest : List ℕ) → a ++ (d ++ (b ++ (n ++ (m ++ (e ++ (k ++ (n ++ rest))))))) ≡ ((a ++ (d ++ b)) ++ n) ++ (((m ++ (e ++ k)) ++ n) ++ rest)
two_lines a d b n m e k rest = rw (append_assoc (a ++ (d ++ b)) n, append_assoc a (d ++ b), append_assoc d b, append_assoc (m ++ (e ++ k)) n, append_assoc m (e ++ k), append_assoc e k)

pub joined : (seed size : ℕ) → BEFORE_SEED.now ++ (decimal seed ++ (BEFORE_SIZE.now ++ (decimal size ++ BEHIND_SIZE.now))) ≡ generated seed size
joined seed size = ap (λ t. codes "-module(load).\n-export([main/0,work/3]).\nmain() -> start(self(),8), gather(1,<<>>).\nstart(_,0) -> ok;\n" ++ t)
    (two_lines (codes "start(P,K) -> spawn(load,work,[P,K,") (decimal seed) (codes "]), start(P,K-1).") (codes "\n") (codes "work(P,K,S) -> B = grow(") (decimal size) (codes ",(S+K) rem 251,<<>>), P ! {K,B}, P ! {K,sum(B,0)}.")
    (drop 51 BEHIND_SIZE.now))

-- what a text is after five parts
of_parts : (a d b e k t1 t2 t3 t4 t5 : List ℕ) → t1 ≡ a → t2 ≡ t1 ++ d → t3 ≡ t2 ++ b → t4 ≡ t3 ++ e → t5 ≡ t4 ++ k → t5 ≡ a ++ (d ++ (b ++ (e ++ k)))
of_parts a d b e k t1 t2 t3 t4 t5 h1 h2 h3 h4 h5 = rw (h5, h4, h3, h2, h1, append_assoc ((a ++ d) ++ b) e k, append_assoc (a ++ d) b (e ++ k), append_assoc a d (b ++ (e ++ k)))

pub written : (seed size : ℕ) (first second t1 t2 t3 t4 t5 : List ℕ) → first ≡ decimal seed → second ≡ decimal size →
    t1 ≡ BEFORE_SEED.now → t2 ≡ t1 ++ first → t3 ≡ t2 ++ BEFORE_SIZE.now → t4 ≡ t3 ++ second → t5 ≡ t4 ++ BEHIND_SIZE.now → t5 ≡ generated seed size
written seed size first second t1 t2 t3 t4 t5 hf hs h1 h2 h3 h4 h5 =
    let numbers : BEFORE_SEED.now ++ (first ++ (BEFORE_SIZE.now ++ (second ++ BEHIND_SIZE.now))) ≡ BEFORE_SEED.now ++ (decimal seed ++ (BEFORE_SIZE.now ++ (decimal size ++ BEHIND_SIZE.now))) = rw (hf, hs) in
    of_parts BEFORE_SEED.now first BEFORE_SIZE.now second BEHIND_SIZE.now t1 t2 t3 t4 t5 h1 h2 h3 h4 h5 ∙ numbers ∙ joined seed size
