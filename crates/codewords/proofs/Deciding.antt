-- A decision, by the answer of the load before it.
use Rattle.std.proofs.Common.{◌≡◌, ℕ, List, ℤ, Ok, Err, Result, ap, subst}
use Rattle.std.specs.Prelude.{IsErrAnd}
use Rattle.faults.specs.declared.load.LoadFault.{LoadFault}
use Rattle.points.specs.Points.{Gaussian, Shape, levels}
use Rattle.blocks.specs.Systems.{System}
use Rattle.blocks.specs.Refusals.{load_fault, rounded_system, load_answer}
use Rattle.blocks.proofs.Loads.{answered, refused}
use Rattle.alphabets.specs.Lists.{list_of}
use Rattle.codewords.specs.declared.exhaustive.Decision.{Decision}
use Rattle.codewords.specs.Nearest.{Nearest, Decided}

module _ (sh : Shape) (e : ℕ) (cs zs : List ℤ) (pts : List Gaussian) where
  -- what is owed for raw words and an alphabet
  abbrev pub Owed : Result Decision LoadFault → Type 0
  Owed r = Decided (load_fault sh e cs zs) r (λ d. Nearest (rounded_system sh e cs zs) pts (levels sh) (list_of d.codeword) d.distance)

  pub decided_ok : (b : System) (d : Decision) → Ok b ≡ load_answer sh e cs zs → Nearest b pts (levels sh) (list_of d.codeword) d.distance → Owed (Ok d)
  decided_ok b d is h =
      let p = answered (load_fault sh e cs zs) (rounded_system sh e cs zs) b is in
      rw p.0 (subst (λ (z : System). Nearest z pts (levels sh) (list_of d.codeword) d.distance) p.1 h)

  pub decided_err : (f : LoadFault) (r : Result Decision LoadFault) → Err f ≡ load_answer sh e cs zs → IsErrAnd r (λ y. y ≡ f) → Owed r
  decided_err f (Ok d) is h = absurd h
  decided_err f (Err y) is h = rw (refused (load_fault sh e cs zs) (rounded_system sh e cs zs) f is) (ap Err h)
