-- What a caller may do to a file (Files-11 On-Disk Structure Level 1, file protection).
use Rattle.std.specs.Prelude.{ℕ, ◌+◌, ◌==◌, ◌&&◌, Bool, true, not, nat_le, List, [], ◌∷◌, codes}
use Rattle.std.specs.List.{list_any}
use Rattle.std.specs.Int.{bit_at}
use Rattle.f11_store.specs.declared.callers.Uic.{Uic}
use Rattle.f11_store.specs.declared.protection.Class.{Class}
use Rattle.f11_store.specs.declared.protection.Class.TheVariants as class
use Rattle.f11_store.specs.declared.protection.Right.{Right}
use Rattle.f11_store.specs.declared.protection.Right.TheVariants as right
use Rattle.f11_store.specs.declared.protection.Rights.{Rights}

-- the four classes, in the order of the protection word
abbrev pub classes : List Class
classes = class.System ∷ class.Owner ∷ class.Group ∷ class.World ∷ []

-- the first of a class's four bits in the protection word (file header, H.FPRO)
abbrev pub class_bit : Class → ℕ
class_bit class.System = 0
class_bit class.Owner = 4
class_bit class.Group = 8
class_bit class.World = 12

-- the bit of a right among four (file header, H.FPRO)
abbrev pub right_bit : Right → ℕ
right_bit right.Read = 0
right_bit right.Write = 1
right_bit right.Extend = 2
right_bit right.Delete = 3

-- the caller is of the class: system by a group of at most octal 10, owner by the owner's code,
-- group by the owner's group, world always
abbrev pub is_of : Uic → Uic → Class → Bool
is_of caller owner class.System = nat_le caller.group 8
is_of caller owner class.Owner = (caller.group == owner.group) && (caller.member == owner.member)
is_of caller owner class.Group = caller.group == owner.group
is_of caller owner class.World = true

-- a set bit of the protection word denies the right to the class
abbrev pub denies : ℕ → Class → Right → Bool
denies word c r = bit_at word (class_bit c + right_bit r) == 1

-- the caller has the right where one of his classes isn't denied it (profile)
abbrev pub may : Uic → Uic → ℕ → Right → Bool
may caller owner word r = list_any (λ c. is_of caller owner c && not (denies word c r)) classes

-- the set as a number, one bit a right
abbrev pub bits_of : Rights → ℕ
bits_of rights = rights.0

-- the right is in the set
abbrev pub has_right : Rights → Right → Bool
has_right rights r = bit_at (bits_of rights) (right_bit r) == 1

-- the names of the rights in a set, and the bit of each
abbrev pub right_names : List (List ℕ × ℕ)
right_names = (codes "READ", 1) ∷ (codes "WRITE", 2) ∷ (codes "EXTEND", 4) ∷ (codes "DELETE", 8) ∷ []
