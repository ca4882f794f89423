use Rattle.std.proofs.Common.{◌≡◌, ◌∙◌, ◌++◌, [], List, Bool, ap, sym, subst, length, arith}
use Rattle.off_heap.specs.Parcels.{read, CanRead}
use Rattle.off_heap.proofs.Adopted.{same_keeps}
use Rattle.off_heap.proofs.heap.Heap.adopt_pieces.Goals as goal

pub read_nodes-requires-clause-can : goal.read_nodes-requires-clause-can
read_nodes-requires-clause-can c = subst (λ (q : List (List Bool)). CanRead c.args.nodes.now q []) (sym c.in_ok-places.ensures.placed.shows) c.requires.can

pub read_nodes-requires-clause-one : goal.read_nodes-requires-clause-one
read_nodes-requires-clause-one c = ap (λ (q : List (List Bool)). length (read c.args.nodes.now q [])) c.in_ok-places.ensures.placed.shows ∙ c.requires.one

pub returns-in-Ok-clause-same : goal.returns-in-Ok-clause-same
returns-in-Ok-clause-same c = c.in-Ok.ensures.same ∙ ap (λ (q : List (List Bool)). read c.args.nodes.now q []) c.in_ok-places.ensures.placed.shows

pub take_back-requires-clause-placed : goal.take_back-requires-clause-placed
take_back-requires-clause-placed c = (c.args.self.now, (c.args.pieces.now.items, (sym c.args.pieces.now.ok.0 ∙ sym c.len-total.ensures, c.in_ok-places.ensures.placed.front)))

pub returns-in-Err-clause-back : goal.returns-in-Err-clause-back
returns-in-Err-clause-back c =
    c.take_back.ensures.pieces c.args.self.now c.args.pieces.now.items (sym c.args.pieces.now.ok.0 ∙ sym c.len-total.ensures) c.in_ok-places.ensures.placed.front
    ∙ ap (λ (ps : List (List Bool)). ps ++ c.args.pieces.now.items) c.in_ok-places.ensures.empty

pub returns-in-Err-clause-stands : goal.returns-in-Err-clause-stands
returns-in-Err-clause-stands c = c.take_back.ensures.stands c.args.self.now c.args.pieces.now.items (sym c.args.pieces.now.ok.0 ∙ sym c.len-total.ensures) c.in_ok-places.ensures.placed.front

pub returns-in-Err-clause-keeps : goal.returns-in-Err-clause-keeps
returns-in-Err-clause-keeps c =
    same_keeps c.args.self.now c.take_back.new.self (c.take_back.ensures.stands c.args.self.now c.args.pieces.now.items (sym c.args.pieces.now.ok.0 ∙ sym c.len-total.ensures) c.in_ok-places.ensures.placed.front)

pub returns-in-Err-clause-swept : goal.returns-in-Err-clause-swept
returns-in-Err-clause-swept c =
    (c.take_back.ensures.stands c.args.self.now c.args.pieces.now.items (sym c.args.pieces.now.ok.0 ∙ sym c.len-total.ensures) c.in_ok-places.ensures.placed.front).swept
