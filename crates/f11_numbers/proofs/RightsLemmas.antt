-- Protection words that are shown by what each class is granted.
use Rattle.std.proofs.Common.{
  ◌≡◌,
  ◌≢◌,
  true,
  false,
  length,
  ◌∙◌,
  ◌==◌,
  ◌<◌,
  ◌≤◌,
  ◌+◌,
  ◌*◌,
  ◌/◌,
  ◌%◌,
  ◌^◌,
  ℕ,
  zero,
  suc,
  List,
  [],
  ◌∷◌,
  ◌++◌,
  ap,
  arith,
  bit_or,
  if◌then◌else◌,
  refl,
  sym,
}
use Rattle.std.proofs.lemmas.List.{append_assoc}
use Rattle.std.specs.Int.{bit_at}
use Rattle.std.specs.Str.{str_to_ascii_uppercase}
use Rattle.std.proofs.lemmas.Nat.Bits.{bit_at-lt}
use Rattle.std.proofs.lemmas.Bool.Decides.{nat_tests}
use Rattle.std.proofs.lemmas.Grind.{low_zeros, or_before_shift}
use Rattle.f11_store.specs.declared.protection.Class.TheVariants as class
use Rattle.f11_store.specs.declared.protection.Right.{Right}
use Rattle.f11_store.specs.declared.protection.Right.TheVariants as right
use Rattle.f11_numbers.specs.Rights.{SpellsRights, granted, letter_of, rights_text}

-- a letter, or nothing where its right is denied
abbrev piece : ℕ → ℕ → List ℕ
piece denied letter = if denied == 1 then [] else letter ∷ []

-- a text doesn't begin with a letter
abbrev IsWithout : ℕ → List ℕ → Type 0
IsWithout letter text = (more : List ℕ) → text ≢ letter ∷ more

without : (letter other : ℕ) (rest : List ℕ) → other ≢ letter → IsWithout letter (other ∷ rest)
without letter other rest apart more is = absurd (apart cc)

-- nor does one in front of which another letter is put, or none
skip : (letter other denied : ℕ) (rest : List ℕ) → denied < 2 → other ≢ letter → IsWithout letter rest
    → IsWithout letter (piece denied other ++ rest)
skip letter other zero rest few apart none = without letter other rest apart
skip letter other (suc zero) rest few apart none = none
skip letter other (suc (suc n)) rest few apart none = absurd (omega arith)

-- what reading the letter of a right makes of a text: whether it is denied, and the rest
abbrev pub ReadsRight : ℕ → List ℕ → ℕ → List ℕ → Type 0
ReadsRight letter text denied_is rest = record {
  bit : denied_is < 2;
  spelled : text ≡ piece denied_is letter ++ rest;
  denied : denied_is ≡ 1 → IsWithout letter text;
}

-- the letter at the front is read
one : (letter a b : ℕ) {text rest : List ℕ} → ReadsRight letter text a rest → (other : List ℕ) → b < 2 → IsWithout letter other
    → text ≡ piece b letter ++ other
    → (a ≡ b) × (rest ≡ other)
one letter zero zero reads other few none same = let equal = sym reads.spelled ∙ same in (refl, cc)
one letter zero (suc zero) reads other few none same = absurd (none _ (sym same ∙ reads.spelled))
one letter (suc zero) zero reads other few none same = absurd (reads.denied refl other same)
one letter (suc zero) (suc zero) reads other few none same = (refl, sym reads.spelled ∙ same)
one letter (suc (suc a)) b reads other few none same = let bit = reads.bit in absurd (omega arith)
one letter zero (suc (suc b)) reads other few none same = absurd (omega arith)
one letter (suc zero) (suc (suc b)) reads other few none same = absurd (omega arith)

-- four numbers put together, each behind the bits of those before it
abbrev pub joined : (x y z a b c d : ℕ) → ℕ
joined x y z a b c d = bit_or (bit_or (bit_or a (b * x % 65536)) (c * y % 65536)) (d * z % 65536)

-- they are their sum
sum_of : (x y z a b c d : ℕ) → x ≡ 2 ^ low_zeros 128 x → y ≡ 2 ^ low_zeros 128 y → z ≡ 2 ^ low_zeros 128 z → a < x → b * x + a < y
    → c * y + (b * x + a) < z
    → b * x < 65536
    → c * y < 65536
    → d * z < 65536
    → joined x y z a b c d ≡ d * z + (c * y + (b * x + a))
sum_of x y z a b c d px py pz fa fb fc lx ly lz =
    let first = or_before_shift a b x 65536 px fa lx in
    let second = or_before_shift (b * x + a) c y 65536 py fb ly in
    rw (first, second) (or_before_shift (c * y + (b * x + a)) d z 65536 pz fc lz)

-- the four bits of a class
abbrev pub nibble : ℕ → ℕ → ℕ → ℕ → ℕ
nibble = joined 2 4 8

sum_of_bits : (r w e d : ℕ) → r < 2 → w < 2 → e < 2 → d < 2 → nibble r w e d ≡ d * 8 + (e * 4 + (w * 2 + r))
sum_of_bits r w e d fr fw fe fd =
    sum_of 2 4 8 r w e d refl refl refl (omega arith) (omega arith) (omega arith) (omega arith) (omega arith) (omega arith)

-- the pieces of a class one after another, and an end behind them
apart : (a b c d rest : List ℕ) → (a ++ (b ++ (c ++ d))) ++ rest ≡ a ++ (b ++ (c ++ (d ++ rest)))
apart a b c d rest = rw (append_assoc a (b ++ (c ++ d)) rest, append_assoc b (c ++ d) rest, append_assoc c d rest) refl

-- the letters at the front of a text that shows a class, and its end behind them, are read
pub class_read : {t0 t1 t2 t3 t4 : List ℕ} {r w e d : ℕ} → ReadsRight 82 t0 r t1 → ReadsRight 87 t1 w t2 → ReadsRight 69 t2 e t3
    → ReadsRight 68 t3 d t4
    → (end : ℕ) → ((r : Right) → end ≢ letter_of r)
    → (word : ℕ) (more : List ℕ) → word < 16 → t0 ≡ granted word class.System ++ (end ∷ more)
    → (nibble r w e d ≡ word) × (t4 ≡ end ∷ more)
class_read {t0} {t1} {t2} {t3} {t4} {r} {w} {e} {d} read write extend delete end other word more few same =
    let b0 = bit_at word 0 in
    let b1 = bit_at word 1 in
    let b2 = bit_at word 2 in
    let b3 = bit_at word 3 in
    let r4 = end ∷ more in
    let r3 = piece b3 68 ++ r4 in
    let r2 = piece b2 69 ++ r3 in
    let r1 = piece b1 87 ++ r2 in
    let n82 = skip 82 87 b1 r2 (bit_at-lt word 1) (omega arith)
    (skip 82 69 b2 r3 (bit_at-lt word 2) (omega arith)
    (skip 82 68 b3 r4 (bit_at-lt word 3) (omega arith) (without 82 end more (other right.Read)))) in
    let n87 = skip 87 69 b2 r3 (bit_at-lt word 2) (omega arith)
    (skip 87 68 b3 r4 (bit_at-lt word 3) (omega arith) (without 87 end more (other right.Write))) in
    let n69 = skip 69 68 b3 r4 (bit_at-lt word 3) (omega arith) (without 69 end more (other right.Extend)) in
    let n68 = without 68 end more (other right.Delete) in
    let s0 = one 82 r b0 read r1 (bit_at-lt word 0) n82 (same ∙ apart (piece b0 82) (piece b1 87) (piece b2 69) (piece b3 68) r4) in
    let s1 = one 87 w b1 write r2 (bit_at-lt word 1) n87 s0.1 in
    let s2 = one 69 e b2 extend r3 (bit_at-lt word 2) n69 s1.1 in
    let s3 = one 68 d b3 delete r4 (bit_at-lt word 3) n68 s2.1 in
    (sum_of_bits r w e d read.bit write.bit extend.bit delete.bit ∙ sum r w e d word few s0.0 s1.0 s2.0 s3.0, s3.1)
  where
    sum : (r w e d word : ℕ) → word < 16 → r ≡ bit_at word 0 → w ≡ bit_at word 1 → e ≡ bit_at word 2 → d ≡ bit_at word 3
        → d * 8 + (e * 4 + (w * 2 + r)) ≡ word
    sum r w e d word few s0 s1 s2 s3 = omega arith

-- what stands behind a character at the front of a text
pub behind : {character : ℕ} {text a b : List ℕ} → text ≡ character ∷ a → text ≡ character ∷ b → a ≡ b
behind is same = let equal = sym is ∙ same in cc

-- a class of a word is shown as one of a word that has the same four bits for the system
same_class : (word n k : ℕ) → bit_at word k ≡ bit_at n 0 → bit_at word (k + 1) ≡ bit_at n 1 → bit_at word (k + 2) ≡ bit_at n 2
    → bit_at word (k + 3) ≡ bit_at n 3
    → piece (bit_at word k) 82 ++ (piece (bit_at word (k + 1)) 87 ++ (piece (bit_at word (k + 2)) 69 ++ piece (bit_at word (k + 3)) 68))
    ≡ granted n class.System
same_class word n k read write extend delete = rw (read, write, extend, delete) refl

-- the four bits of each class
abbrev pub system_of : ℕ → ℕ
system_of word = word % 16

abbrev pub owner_of : ℕ → ℕ
owner_of word = word / 16 % 16

abbrev pub group_of : ℕ → ℕ
group_of word = word / 256 % 16

abbrev pub world_of : ℕ → ℕ
world_of word = word / 4096 % 16

-- what is shown of a word, from a class on
abbrev pub from_world : ℕ → List ℕ
from_world word = granted (world_of word) class.System ++ (93 ∷ [])

abbrev pub from_group : ℕ → List ℕ
from_group word = granted (group_of word) class.System ++ (44 ∷ from_world word)

abbrev pub from_owner : ℕ → List ℕ
from_owner word = granted (owner_of word) class.System ++ (44 ∷ from_group word)

abbrev pub from_system : ℕ → List ℕ
from_system word = granted (system_of word) class.System ++ (44 ∷ from_owner word)

pub shown_from : (word : ℕ) → rights_text word ≡ 91 ∷ from_system word
shown_from word =
    let system = same_class word (system_of word) 0 (omega arith) (omega arith) (omega arith) (omega arith) in
    let owner = same_class word (owner_of word) 4 (omega arith) (omega arith) (omega arith) (omega arith) in
    let group = same_class word (group_of word) 8 (omega arith) (omega arith) (omega arith) (omega arith) in
    let world = same_class word (world_of word) 12 (omega arith) (omega arith) (omega arith) (omega arith) in
    rw (system, owner, group, world) refl

-- the four classes put together
abbrev pub word_of : ℕ → ℕ → ℕ → ℕ → ℕ
word_of = joined 16 256 4096

sum_of_classes : (s o g w : ℕ) → s < 16 → o < 16 → g < 16 → w < 16 → word_of s o g w ≡ w * 4096 + (g * 256 + (o * 16 + s))
sum_of_classes s o g w fs fo fg fw =
    sum_of 16 256 4096 s o g w refl refl refl (omega arith) (omega arith) (omega arith) (omega arith) (omega arith) (omega arith)

-- a word is its four classes put together
pub same_word : {s o g w : ℕ} (word : ℕ) → word ≤ 65535 → s ≡ system_of word → o ≡ owner_of word → g ≡ group_of word → w ≡ world_of word
    → word_of s o g w ≡ word
same_word {s} {o} {g} {w} word few system owner group world =
    sum_of_classes s o g w (omega arith) (omega arith) (omega arith) (omega arith) ∙ omega arith

-- a text of four classes shows the word that is put together of these
pub spells_word : {text t0 t1 t2 t3 t4 : List ℕ} {s o g w : ℕ} → s < 16 → o < 16 → g < 16 → w < 16 → str_to_ascii_uppercase text ≡ 91 ∷ t0
    → t0 ≡ granted s class.System ++ (44 ∷ t1)
    → t1 ≡ granted o class.System ++ (44 ∷ t2)
    → t2 ≡ granted g class.System ++ (44 ∷ t3)
    → t3 ≡ granted w class.System ++ (93 ∷ t4)
    → t4 ≡ []
    → SpellsRights text (word_of s o g w)
spells_word {text} {t0} {t1} {t2} {t3} {t4} {s} {o} {g} {w} fs fo fg fw is system owner group world ends =
    let word = word_of s o g w in
    let sum : word ≡ w * 4096 + (g * 256 + (o * 16 + s)) = sum_of_classes s o g w fs fo fg fw in
    let ss : system_of word ≡ s = omega arith in
    let so : owner_of word ≡ o = omega arith in
    let sg : group_of word ≡ g = omega arith in
    let sw : world_of word ≡ w = omega arith in
    let shown : from_system word ≡ t0 = rw (ss, so, sg, sw, system, owner, group, world, ends) refl in
    record { is_shown = is ∙ ap (λ t. 91 ∷ t) (sym shown) ∙ sym (shown_from word); at_most = omega arith }

-- what stands behind the bracket of a text that shows a word
pub at_system : {text bytes rest : List ℕ} (word : ℕ) → SpellsRights text word → bytes ≡ text → str_to_ascii_uppercase bytes ≡ 91 ∷ rest
    → rest ≡ from_system word
at_system word spells same is = behind is (ap str_to_ascii_uppercase same ∙ spells.is_shown ∙ shown_from word)

-- a text is empty where its length is 0
pub empty : (rest : List ℕ) → true ≡ (length rest == 0) → str_to_ascii_uppercase rest ≡ []
empty [] is = refl
empty (c ∷ rest) is = absurd (grind (arith, nat_tests, is))

-- and only there
pub not_empty : (rest : List ℕ) → false ≡ (length rest == 0) → str_to_ascii_uppercase rest ≡ [] → ⊥
not_empty [] is none = absurd cc
not_empty (c ∷ rest) is none = absurd cc
