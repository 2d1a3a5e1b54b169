-- The union of four sets of at most one right each has exactly those rights.
use Rattle.std.proofs.Common.{◌≡◌, ◌==◌, Bool, true, false, bit_or, if◌then◌else◌, refl, ◌∙◌}
use Rattle.std.specs.Int.{bit_at}
use Rattle.f11_store.specs.declared.protection.Right.TheVariants as right
use Rattle.f11_store.proofs.protection.allowed.Goals as goal

-- bit k of the union is set exactly where set k isn't empty
bits_of_union :
    (a b c d : Bool) →
    let n = bit_or (bit_or (bit_or (if a then 1 else 0) (if b then 2 else 0)) (if c then 4 else 0)) (if d then 8 else 0) in
    ((bit_at n 0 == 1) ≡ a) × ((bit_at n 1 == 1) ≡ b) × ((bit_at n 2 == 1) ≡ c) × ((bit_at n 3 == 1) ≡ d)
bits_of_union true true true true = (refl, refl, refl, refl)
bits_of_union true true true false = (refl, refl, refl, refl)
bits_of_union true true false true = (refl, refl, refl, refl)
bits_of_union true true false false = (refl, refl, refl, refl)
bits_of_union true false true true = (refl, refl, refl, refl)
bits_of_union true false true false = (refl, refl, refl, refl)
bits_of_union true false false true = (refl, refl, refl, refl)
bits_of_union true false false false = (refl, refl, refl, refl)
bits_of_union false true true true = (refl, refl, refl, refl)
bits_of_union false true true false = (refl, refl, refl, refl)
bits_of_union false true false true = (refl, refl, refl, refl)
bits_of_union false true false false = (refl, refl, refl, refl)
bits_of_union false false true true = (refl, refl, refl, refl)
bits_of_union false false true false = (refl, refl, refl, refl)
bits_of_union false false false true = (refl, refl, refl, refl)
bits_of_union false false false false = (refl, refl, refl, refl)

-- the result's number is that union
union_is : (c : goal.After-union-3)
    → c.union-3.result.0 ≡ bit_or
    (bit_or (bit_or (if c.may.result then 1 else 0) (if c.may-2.result then 2 else 0)) (if c.may-3.result then 4 else 0))
    (if c.may-4.result then 8 else 0)
union_is c =
    rw (
      c.union-3.ensures tt,
      c.union-2.ensures tt,
      c.union.ensures tt,
      c.right_if-read.ensures,
      c.right_if-write.ensures,
      c.right_if-extend.ensures,
      c.right_if-delete.ensures,
    )

pub returns-clause-exact : goal.returns-clause-exact
returns-clause-exact c right.Read =
    rw union_is ((bits_of_union c.may.result c.may-2.result c.may-3.result c.may-4.result).0 ∙ c.may.ensures)
returns-clause-exact c right.Write =
    rw union_is ((bits_of_union c.may.result c.may-2.result c.may-3.result c.may-4.result).1 ∙ c.may-2.ensures)
returns-clause-exact c right.Extend =
    rw union_is ((bits_of_union c.may.result c.may-2.result c.may-3.result c.may-4.result).2 ∙ c.may-3.ensures)
returns-clause-exact c right.Delete =
    rw union_is ((bits_of_union c.may.result c.may-2.result c.may-3.result c.may-4.result).3 ∙ c.may-4.ensures)
