-- The words of a block, written out: r_lj as the channel list has them, z_l as the received list has them.
--
--   PairLayout    for pairs, x and y are the real and the imaginary part
--   WholeLayout   for whole numbers
--   Layout        both
use Rattle.std.specs.Prelude.{◌≡◌, [], ◌∷◌, ℤ}
use Rattle.points.specs.Points.{gaussian, real, whole, pair}
use Rattle.blocks.specs.Systems.{system}

abbrev pub PairLayout : Type 0
PairLayout =
    (r11 x12 y12 x13 y13 x14 y14 : ℤ)
    (r22 x23 y23 x24 y24 : ℤ)
    (r33 x34 y34 : ℤ)
    (r44 : ℤ)
    (x1 y1 x2 y2 x3 y3 x4 y4 : ℤ) →
    system pair
    (r11 ∷ x12 ∷ y12 ∷ x13 ∷ y13 ∷ x14 ∷ y14
    ∷ r22 ∷ x23 ∷ y23 ∷ x24 ∷ y24
    ∷ r33 ∷ x34 ∷ y34
    ∷ r44 ∷ [])
    (x1 ∷ y1 ∷ x2 ∷ y2 ∷ x3 ∷ y3 ∷ x4 ∷ y4 ∷ [])
    ≡ record {
      matrix =
          ((real r11 ∷ gaussian x12 y12 ∷ gaussian x13 y13 ∷ gaussian x14 y14 ∷ [])
          ∷ (real r22 ∷ gaussian x23 y23 ∷ gaussian x24 y24 ∷ [])
          ∷ (real r33 ∷ gaussian x34 y34 ∷ [])
          ∷ (real r44 ∷ [])
          ∷ []);
      received = gaussian x1 y1 ∷ gaussian x2 y2 ∷ gaussian x3 y3 ∷ gaussian x4 y4 ∷ [];
    }

abbrev pub WholeLayout : Type 0
WholeLayout =
    (r11 r12 r13 r14 r15 r16 r17 r18 : ℤ)
    (r22 r23 r24 r25 r26 r27 r28 : ℤ)
    (r33 r34 r35 r36 r37 r38 : ℤ)
    (r44 r45 r46 r47 r48 : ℤ)
    (r55 r56 r57 r58 : ℤ)
    (r66 r67 r68 : ℤ)
    (r77 r78 : ℤ)
    (r88 : ℤ)
    (z1 z2 z3 z4 z5 z6 z7 z8 : ℤ) →
    system whole
    (r11 ∷ r12 ∷ r13 ∷ r14 ∷ r15 ∷ r16 ∷ r17 ∷ r18
    ∷ r22 ∷ r23 ∷ r24 ∷ r25 ∷ r26 ∷ r27 ∷ r28
    ∷ r33 ∷ r34 ∷ r35 ∷ r36 ∷ r37 ∷ r38
    ∷ r44 ∷ r45 ∷ r46 ∷ r47 ∷ r48
    ∷ r55 ∷ r56 ∷ r57 ∷ r58
    ∷ r66 ∷ r67 ∷ r68
    ∷ r77 ∷ r78
    ∷ r88 ∷ [])
    (z1 ∷ z2 ∷ z3 ∷ z4 ∷ z5 ∷ z6 ∷ z7 ∷ z8 ∷ [])
    ≡ record {
      matrix =
          ((real r11 ∷ real r12 ∷ real r13 ∷ real r14 ∷ real r15 ∷ real r16 ∷ real r17 ∷ real r18 ∷ [])
          ∷ (real r22 ∷ real r23 ∷ real r24 ∷ real r25 ∷ real r26 ∷ real r27 ∷ real r28 ∷ [])
          ∷ (real r33 ∷ real r34 ∷ real r35 ∷ real r36 ∷ real r37 ∷ real r38 ∷ [])
          ∷ (real r44 ∷ real r45 ∷ real r46 ∷ real r47 ∷ real r48 ∷ [])
          ∷ (real r55 ∷ real r56 ∷ real r57 ∷ real r58 ∷ [])
          ∷ (real r66 ∷ real r67 ∷ real r68 ∷ [])
          ∷ (real r77 ∷ real r78 ∷ [])
          ∷ (real r88 ∷ [])
          ∷ []);
      received = real z1 ∷ real z2 ∷ real z3 ∷ real z4 ∷ real z5 ∷ real z6 ∷ real z7 ∷ real z8 ∷ [];
    }

abbrev pub Layout : Type 0
Layout = PairLayout × WholeLayout
