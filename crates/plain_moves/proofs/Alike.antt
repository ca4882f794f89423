-- What the move of an environment says of the expression that stands there.
use Rattle.std.proofs.Common.{◌≡◌, ap, sym, ◌∙◌, subst, IfOk}
use Rattle.std.specs.declared.result.Result.{Result}
use Rattle.term_value.specs.Value.{Value}
use Rattle.term_value.specs.Tree.{Tree, Val}
use Rattle.term_value.specs.Step.{World, Step, Ready, lift, step}
use Rattle.term_layers.specs.Environments as e
use Rattle.term_layers.specs.Layers.{wrap}
use Rattle.term_layers.specs.Turns.{Turn, opening, giving, IsNext}
use Rattle.term_layers.proofs.InEnvironment.{opening_of, giving_of}
use Rattle.term_layers.proofs.Turns.{opening_next, giving_next}
use Rattle.plain_moves.specs.Moving.{IsMove}
use Rattle.plain_moves.specs.declared.moves.Move.{Move}

module _ (w : World) where
  opens : (focus : e.Focus) (move : e.Move) → e.opening_in w focus ≡ move → IsNext w (e.tree_in focus) (e.turn_of move)
  opens focus move h =
      let P : Turn → Type 0 = λ turn. IsNext w (e.tree_in focus) turn in
      subst P (sym (opening_of w focus) ∙ ap e.turn_of h) (opening_next w (e.tree_in focus))

  gives : (frame : e.Frame) (v : Value) (move : e.Move) → e.giving_in w frame v ≡ move → IsNext w (wrap (e.layer_of frame) (Val v)) (e.turn_of move)
  gives frame v move h =
      let P : Turn → Type 0 = λ turn. IsNext w (wrap (e.layer_of frame) (Val v)) turn in
      subst P (sym (giving_of w frame v) ∙ ap e.turn_of h) (giving_next w (e.layer_of frame) v)

  -- what an open part does is the next contraction
  pub open_does : (focus : e.Focus) (s : Step Value e.Focus) → e.opening_in w focus ≡ e.Does s → step w (e.tree_in focus) ≡ lift Ready e.tree_in s
  open_does focus s h = opens focus (e.Does s) h

  -- its first part, within what stands round it, is the same expression
  pub open_enters : (focus : e.Focus) (frame : e.Frame) (inner : e.Focus) → e.opening_in w focus ≡ e.Enters frame inner → e.tree_in focus ≡ wrap (e.layer_of frame) (e.tree_in inner)
  open_enters focus frame inner h = opens focus (e.Enters frame inner) h

  -- what a frame does with a value is the next contraction
  pub give_does : (frame : e.Frame) (v : Value) (s : Step Value e.Focus) → e.giving_in w frame v ≡ e.Does s → step w (wrap (e.layer_of frame) (Val v)) ≡ lift Ready e.tree_in s
  give_does frame v s h = gives frame v (e.Does s) h

  -- its next part, within what stands round it, is the same expression
  pub give_enters : (frame : e.Frame) (v : Value) (outer : e.Frame) (inner : e.Focus) → e.giving_in w frame v ≡ e.Enters outer inner → wrap (e.layer_of frame) (Val v) ≡ wrap (e.layer_of outer) (e.tree_in inner)
  give_enters frame v outer inner h = gives frame v (e.Enters outer inner) h

-- a move of an expression is one of an equal expression
pub along : {E : Type 0} (w : World) (u v : Tree) (r : Result Move E) → u ≡ v → IfOk r (IsMove w u) → IfOk r (IsMove w v)
along w u v r same h = subst (λ (x : Tree). IfOk r (IsMove w x)) same h
