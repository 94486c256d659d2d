-- The first refusal that holds, out of a list of conditions in the order in which they are looked at.
--
--   when c f       the fault f, if c holds
--   first_of fs    the first fault that is there
--   answer f x     the refusal, if there is a fault, and else x
use Rattle.std.specs.Prelude.{Bool, true, false, List, [], ◌∷◌, Some, None, Ok, Err, Option, Result}

abbrev pub when : {F : Type 0} → Bool → F → Option F
when true f = Some f
when false f = None

abbrev pub or_else : {F : Type 0} → Option F → Option F → Option F
or_else (Some f) later = Some f
or_else None later = later

abbrev pub first_of : {F : Type 0} → List (Option F) → Option F
first_of [] = None
first_of (f ∷ fs) = or_else f (first_of fs)

abbrev pub answer : {F X : Type 0} → Option F → X → Result X F
answer None x = Ok x
answer (Some f) x = Err f
