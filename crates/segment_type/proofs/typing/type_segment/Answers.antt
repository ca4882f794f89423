use Rattle.std.proofs.Common.{refl, inl, inr}
use Rattle.segment_type.proofs.FirstWords.{carried}
use Rattle.segment_type.proofs.typing.type_segment.Goals as goal

pub returns-then-has_fault-3 : goal.returns-then-has_fault-3
returns-then-has_fault-3 c =
    inr (carried _ _ c.items.ensures c.in_ok-words.ensures.words.agree, inr (c.if-has_fault.ensures, inr (c.if-has_fault-2.ensures, inl (c.if-has_fault-3.ensures, refl))))

pub returns-then-has_fault-4 : goal.returns-then-has_fault-4
returns-then-has_fault-4 c =
    inr (carried _ _ c.items.ensures c.in_ok-words.ensures.words.agree, inr (c.if-has_fault.ensures, inr (c.if-has_fault-2.ensures, inr (c.if-has_fault-3.ensures, inl (c.if-has_fault-4.ensures, refl)))))

pub returns-then-has_fault-6 : goal.returns-then-has_fault-6
returns-then-has_fault-6 c =
    inr (
      carried _ _ c.items.ensures c.in_ok-words.ensures.words.agree,
      inr (
        c.if-has_fault.ensures,
        inr (
          c.if-has_fault-2.ensures,
          inr (
            c.if-has_fault-3.ensures,
            inr (c.if-has_fault-4.ensures, inr (c.if-has_fault-5.ensures, inl (c.if-has_fault-6.ensures, refl))),
          ),
        ),
      ),
    )

pub returns-then-has_fault-7 : goal.returns-then-has_fault-7
returns-then-has_fault-7 c =
    inr (
      carried _ _ c.items.ensures c.in_ok-words.ensures.words.agree,
      inr (
        c.if-has_fault.ensures,
        inr (
          c.if-has_fault-2.ensures,
          inr (
            c.if-has_fault-3.ensures,
            inr (c.if-has_fault-4.ensures, inr (c.if-has_fault-5.ensures, inr (c.if-has_fault-6.ensures, inl (c.if-has_fault-7.ensures, refl)))),
          ),
        ),
      ),
    )

pub returns-then-has_fault-8 : goal.returns-then-has_fault-8
returns-then-has_fault-8 c =
    inr (
      carried _ _ c.items.ensures c.in_ok-words.ensures.words.agree,
      inr (
        c.if-has_fault.ensures,
        inr (
          c.if-has_fault-2.ensures,
          inr (
            c.if-has_fault-3.ensures,
            inr (c.if-has_fault-4.ensures, inr (c.if-has_fault-5.ensures, inr (c.if-has_fault-6.ensures, inr (c.if-has_fault-7.ensures, inl (c.if-has_fault-8.ensures, refl))))),
          ),
        ),
      ),
    )

pub returns : goal.returns
returns c = (
  inr (
    carried _ _ c.items.ensures c.in_ok-words.ensures.words.agree,
    inr (
      c.if-has_fault.ensures,
      inr (
        c.if-has_fault-2.ensures,
        inr (
          c.if-has_fault-3.ensures,
          inr (c.if-has_fault-4.ensures, inr (c.if-has_fault-5.ensures, inr (c.if-has_fault-6.ensures, inr (c.if-has_fault-7.ensures, inr (c.if-has_fault-8.ensures, refl))))),
        ),
      ),
    ),
  ),
  c.table.ensures,
)
