-- What an ask is for (this project's own).
use Rattle.std.specs.Prelude.{ℕ, Bool, true, false, List, Option, Some, None, nat_eq}
use Rattle.term_value.specs.Seen.{Seen}
use Rattle.term_value.specs.Value.{Value, VList, Values, none}
use Rattle.term_value.specs.Texts.{text}
use Rattle.term_value.specs.Tree.{Module}
use Rattle.term_value.specs.Step.{name_in}
use Rattle.code_tree.specs.PlainTerms.{value}
use Rattle.process_acts.specs.declared.asking.Asking.{Asking}
use Rattle.process_acts.specs.declared.asking.Asking.TheVariants as a
use Rattle.copy_machine.specs.declared.call.Call.{Call}
use Rattle.copy_machine.specs.declared.ending.Ending.{Ending}
use Rattle.copy_machine.specs.declared.ending.Ending.TheVariants as e

abbrev pub if_named : {X : Type 0} → Bool → X → Option X
if_named true x = Some x
if_named false x = None

-- the message, where the ask is to send one to this pid
abbrev pub message_to : ℕ → Option Asking → Option (Seen (List Bool))
message_to to (Some (a.Send receiver message)) = if_named (nat_eq receiver to) message
message_to to _ = None

-- the value, where the ask is to display one
abbrev pub shown_by : Option Asking → Option (Seen (List Bool))
shown_by (Some (a.Show shown)) = Some shown
shown_by _ = None

-- the call, where the ask is to start a process
abbrev pub called_by : Option Asking → Option Call
called_by (Some (a.Start m f vs)) = Some (record { module_name = m; function = f; arguments = vs })
called_by _ = None

abbrev pub is_start : Option Asking → Bool
is_start (Some (a.Start m f vs)) = true
is_start _ = false

abbrev pub is_more : Option Asking → Bool
is_more (Some a.More) = true
is_more _ = false

-- how a process ended, where it did
abbrev pub ended_by : Module → Option Asking → Option Ending
ended_by code (Some a.Done) = Some e.Normal
ended_by code (Some (a.Raised reason)) = Some (e.Exit (text (name_in code) (value reason)))
ended_by code _ = None

-- the items of a list
abbrev pub arguments_of : Value → Values
arguments_of (VList vs) = vs
arguments_of _ = none
