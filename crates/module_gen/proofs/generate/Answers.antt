use Rattle.std.proofs.Common.{◌∙◌}
use Rattle.module_gen.proofs.Joined.{written}
use Rattle.module_gen.proofs.generate.Goals as goal

pub returns : goal.returns
returns c =
    written c.args.seed c.args.size _ _ _ _ _ _ _ (c.as_bytes.ensures.value ∙ c.format.ensures.text) (c.as_bytes-2.ensures.value ∙ c.format-2.ensures.text)
    c.in_ok-text.ensures.items
    c.in_ok-extend_from_slice.ensures.items
    c.in_ok-extend_from_slice-2.ensures.items
    c.in_ok-extend_from_slice-3.ensures.items
    c.in_ok-extend_from_slice-4.ensures.items
