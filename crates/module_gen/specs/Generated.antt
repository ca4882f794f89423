-- The generated module (this project's own): for a seed and a size a module whose eight workers make their own bytes and
-- send them to the first process, which joins them and displays sums.
use Rattle.std.specs.Prelude.{ℕ, List, [], ◌∷◌, ◌++◌, codes, decimal}
use Rattle.std.specs.List.{flat_map}

-- the lines, without their line feeds
abbrev pub generated_lines : ℕ → ℕ → List (List ℕ)
generated_lines seed size =
    -- what other modules and `spawn` may call
    codes "-module(load)." ∷
    codes "-export([main/0,work/3])." ∷
    -- the first process starts worker 8 first and worker 1 last, and then gathers what they send
    codes "main() -> start(self(),8), gather(1,<<>>)." ∷
    codes "start(_,0) -> ok;" ∷
    (codes "start(P,K) -> spawn(load,work,[P,K," ++ decimal seed ++ codes "]), start(P,K-1).") ∷
    -- a worker sends `size` bytes that follow from the seed and its number, and their sum
    (codes "work(P,K,S) -> B = grow(" ++ decimal size ++ codes ",(S+K) rem 251,<<>>), P ! {K,B}, P ! {K,sum(B,0)}.") ∷
    -- N bytes behind A: X, and then each from the one before it
    codes "grow(0,_,A) -> A;" ∷
    codes "grow(N,X,A) -> grow(N-1,(X*13+7) rem 251,<<A/binary,X>>)." ∷
    -- the sum of a binary's bytes, in their order, and of T
    codes "sum(<<X,R/binary>>,T) -> sum(R,(T*31+X) rem 1000003);" ∷
    codes "sum(<<>>,T) -> T." ∷
    -- behind worker 8: how many bytes came, and their sum
    codes "gather(9,A) -> erlang:display(byte_size(A)), erlang:display(sum(A,0));" ∷
    -- worker K's bytes go behind A; its number, their count and its sum are displayed. The messages of a worker are taken by
    -- its number, so the report is the same whichever worker sends first
    codes "gather(K,A) ->" ∷
    codes "    receive {K,B} when is_binary(B) ->" ∷
    codes "        receive {K,T} when is_integer(T) -> erlang:display({K,byte_size(B),T}) end," ∷
    codes "        gather(K+1,<<A/binary,B/binary>>)" ∷
    codes "    end." ∷
    []

-- the text: each line ends with a line feed
abbrev pub generated : ℕ → ℕ → List ℕ
generated seed size = flat_map (λ line. line ++ codes "\n") (generated_lines seed size)
