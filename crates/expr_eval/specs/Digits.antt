-- Numbers of digits that are counted up to a largest one, for the contracts of private functions.
use Rattle.std.specs.Prelude.{ℕ, Option, Some, None, min}

abbrev pub at_most : ℕ → Option ℕ → Option ℕ
at_most largest (Some n) = Some (min n largest)
at_most largest None = None
