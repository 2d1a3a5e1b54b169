-- What carries `ConfinesTo` and `StandsAlike` from step to step, and which blocks a step writes.
use Rattle.std.proofs.Common.{◌≡◌, ◌≢◌, ◌⊎◌, ◌+◌, ◌*◌, ◌-◌, ◌<◌, ◌≤◌, ℕ, zero, suc, ◌==◌, ◌||◌, Some, Bool, true, false, IsTrue, List, []}
use Rattle.std.proofs.Common.{◌∷◌}
use Rattle.std.proofs.Common.{◌++◌, length, min, take, drop, get_or, inl, inr, refl, sym, ap, subst, ◌∙◌, arith}
use Rattle.std.proofs.Math.Bool.{or-true}
use Rattle.std.proofs.lemmas.Bool.{cases_Bool, cases_lt, eq-eqb, eqb-true, false≢true}
use Rattle.std.proofs.lemmas.Option.{none-some, same_Some}
use Rattle.std.proofs.lemmas.List.{get_or-append_right, get_or-take, get_or_append_left, length-append, length-set, length-take}
use Rattle.std.proofs.lemmas.List.{take-append-drop}
use Rattle.std.proofs.lemmas.List.FromFn.{get_or-range_with_len, length-range_with_len}
use Rattle.std.specs.List.{range_with_len, slice_get}
use Rattle.f11_bits.specs.Bitmap.{Bitmap, KeepsOthers}
use Rattle.f11_bits.specs.Changes.{Changing}
use Rattle.f11_chain.specs.Calls.{FailsToReadNext, FindsWrongLink}
use Rattle.f11_chain.specs.declared.fault.ChainFault.{ChainFault}
use Rattle.f11_chain.specs.declared.fault.ChainFault.TheVariants as chain
use Rattle.f11_dev.specs.Disk.{Disk, with_transfer, with_block_at}
use Rattle.f11_dev.specs.Image.{Image}
use Rattle.f11_dev.specs.Looked.{Looked}
use Rattle.f11_dev.specs.Went.{Went}
use Rattle.f11_index.specs.Calls.{SetsBit, HasBitWritten, bitmap_place, bitmap_block, with_blocks_behind}
use Rattle.f11_index.specs.IndexFile.{Index, index_of, slots, header_lbn, is_in_use}
use Rattle.f11_index.specs.Kept.{index_kept}
use Rattle.f11_index.specs.declared.index_file.IndexFile.{IndexFile}
use Rattle.f11_index.proofs.InUseLemmas.{in_use-some, in_use-slot}
use Rattle.f11_store.specs.Changes.{is_in}
use Rattle.f11_store.specs.declared.files.FileId.{FileId}
use Rattle.f11_image_store.specs.Confines.{no_header, only_header, either}
use Rattle.f11_writes.specs.Order.{WritesInOrder}
use Rattle.f11_files.specs.Answers.{WritesOnly}
use Rattle.f11_files.specs.Confined.{ConfinesInOrder}
use Rattle.f11_files.specs.Finding.First.{FindsFile}
use Rattle.f11_files.specs.Structure.{bitmap_in, home_of, index_in, ConfinesTo, IsStructureFor, StandsAlike, StandsWithin, WritesParts}
use Rattle.f11_files.specs.declared.structure.Structure.{Structure}
use Rattle.f11_files.proofs.Removing.Loss.{in-append, in-run}
use Rattle.f11_image_store.proofs.ConfinesLemmas.{alike-part, header-apart, spares-bitmap, spares-other}
use Rattle.f11_files.proofs.Confining.Confines.{alike-same, confines-failed, confines-looked, confines-none, confines-then, confines-went}
use Rattle.f11_files.proofs.Confining.Confines.{confines-wider, confines-write, fewer-part}

pub stands-same : (s : Structure) → StandsAlike s s
stands-same s = alike-same (index_in s) (bitmap_in s)

pub stands-then : (s t u : Structure) → StandsAlike s t → StandsAlike t u → StandsAlike s u
stands-then s t u one two = record {
  headers = two.headers ∙ one.headers;
  bitmap_lbn = two.bitmap_lbn ∙ one.bitmap_lbn;
  bitmap_blocks = two.bitmap_blocks ∙ one.bitmap_blocks;
  places = two.places ∙ one.places;
}

pub stands-within : (s after : Structure) (headers fewer : ℕ → Bool) (others : List ℕ) → ((n : ℕ) → fewer n ≡ true → headers n ≡ true)
    → StandsAlike s after → StandsWithin s headers others after fewer
stands-within s after headers fewer others may alike l none out =
    fewer-part headers fewer (index_in after) (bitmap_in after) may l
    (alike-part headers (index_in s) (index_in after) (bitmap_in s) (bitmap_in after) alike l none)

-- which headers
pub of-none : (headers : ℕ → Bool) (n : ℕ) → no_header n ≡ true → headers n ≡ true
of-none headers n is = absurd (false≢true is)

pub of-only : (headers : ℕ → Bool) (number : ℕ) → headers number ≡ true → (n : ℕ) → only_header number n ≡ true → headers n ≡ true
of-only headers number may n is = ap headers (eqb-true n number is) ∙ may

pub in-only : (n : ℕ) → only_header n n ≡ true
in-only n = eq-eqb n n refl

pub in-one : (one other : ℕ → Bool) (n : ℕ) → one n ≡ true → either one other n ≡ true
in-one one other n is = ap (λ (b : Bool). b || other n) is

pub in-other : (one other : ℕ → Bool) (n : ℕ) → other n ≡ true → either one other n ≡ true
in-other one other n is = ap (λ (b : Bool). one n || b) is ∙ or-true (one n)

pub of-either : (headers one other : ℕ → Bool) → ((n : ℕ) → one n ≡ true → headers n ≡ true) → ((n : ℕ) → other n ≡ true → headers n ≡ true)
    → (n : ℕ) → either one other n ≡ true → headers n ≡ true
of-either headers one other first second n is = elim (cases_Bool (one n)) [
  | inl here ↦ first n here
  | inr none ↦ second n (ap (λ (b : Bool). b || other n) (sym none) ∙ is)
]

-- steps that write others too
pub to-then : (s t : Structure) (headers later : ℕ → Bool) (others more : List ℕ) {a b c : Disk} → StandsWithin s headers others t later
    → ((l : ℕ) → is_in others l ≡ false → is_in more l ≡ false)
    → ConfinesTo s headers others a b → ConfinesTo t later more b c → ConfinesTo s headers others a c
to-then s t headers later others more stands fewer one two =
    confines-then headers later (index_in s) (index_in t) (bitmap_in s) (bitmap_in t) others more stands fewer one two

pub to-wider : (s : Structure) (headers fewer : ℕ → Bool) (others more : List ℕ) {old new : Disk}
    → ((n : ℕ) → fewer n ≡ true → headers n ≡ true) → ((l : ℕ) → is_in others l ≡ false → is_in more l ≡ false)
    → ConfinesTo s fewer more old new → ConfinesTo s headers others old new
to-wider s headers fewer others more may less one = confines-wider headers fewer (index_in s) (bitmap_in s) others more may less one

-- parts alone, and then others
pub to-parts : (s : Structure) (headers fewer : ℕ → Bool) (others : List ℕ) {old new : Disk} → ((n : ℕ) → fewer n ≡ true → headers n ≡ true)
    → WritesParts s fewer old new → ConfinesTo s headers others old new
to-parts s headers fewer others may one = to-wider s headers fewer others [] may (λ l _. refl) one

pub parts-none : (s : Structure) (headers : ℕ → Bool) (disk : Disk) → WritesParts s headers disk disk
parts-none s headers disk = confines-none headers (index_in s) (bitmap_in s) [] disk

pub parts-looked : (s : Structure) (headers : ℕ → Bool) {old new : Disk} {most faults : ℕ} → Looked old new most faults
    → WritesParts s headers old new
parts-looked s headers looked = confines-looked headers (index_in s) (bitmap_in s) [] looked

pub parts-then : (s t : Structure) (headers : ℕ → Bool) {a b c : Disk} → StandsAlike s t → WritesParts s headers a b
    → WritesParts t headers b c → WritesParts s headers a c
parts-then s t headers alike one two =
    to-then s t headers headers [] [] (stands-within s t headers headers [] (λ n is. is) alike) (λ l out. out) one two

-- after what was read
pub parts-behind : (s : Structure) (headers : ℕ → Bool) {a b c : Disk} {most faults : ℕ} → Looked a b most faults
    → WritesParts s headers b c → WritesParts s headers a c
parts-behind s headers looked one = parts-then s s headers (stands-same s) (parts-looked s headers looked) one

pub parts-stay : (s : Structure) (headers : ℕ → Bool) {old new : Disk} → new ≡ old → WritesParts s headers old new
parts-stay s headers {old = old} same = subst (WritesParts s headers old) (sym same) (parts-none s headers old)

-- no header was found behind one
pub next-parts : (s : Structure) (headers : ℕ → Bool) (block : List ℕ) (old new : Disk) (fault : ChainFault) → ¬ (fault ≡ chain.EndOfFile)
    → (fault ≡ chain.Damaged → FindsWrongLink (index_in s) block old new)
    → (fault ≡ chain.DeviceFault → FailsToReadNext block old new) → WritesParts s headers old new
next-parts s headers block old new chain.EndOfFile never damaged failed = absurd (never refl)
next-parts s headers block old new chain.Damaged never damaged failed = parts-looked s headers (damaged refl).looked
next-parts s headers block old new chain.DeviceFault never damaged failed = parts-looked s headers (failed refl).looked

-- a slot's header, whether or not it is in use
pub slot-wrote : (s : Structure) (headers : ℕ → Bool) (n lbn : ℕ) (block : List ℕ) (old new : Disk) → headers n ≡ true → 0 < n
    → n ≤ slots (index_in s) → lbn ≡ header_lbn (index_in s) n
    → new ≡ with_transfer true (with_block_at lbn block old) → WritesInOrder old new → WritesParts s headers old new
slot-wrote s headers n lbn block old new may some slot at wrote =
    confines-write headers (index_in s) (bitmap_in s) [] old new lbn block
    (λ l none _. header-apart headers (index_in s) (bitmap_in s) n lbn may some slot at l none) wrote

pub slot-failed : (s : Structure) (headers : ℕ → Bool) (n lbn : ℕ) (block : List ℕ) (old new : Disk) → headers n ≡ true → 0 < n
    → n ≤ slots (index_in s) → lbn ≡ header_lbn (index_in s) n
    → (new ≡ with_transfer false old) ⊎ (new ≡ with_transfer false (with_block_at lbn block old)) → WritesInOrder old new
    → WritesParts s headers old new
slot-failed s headers n lbn block old new may some slot at is =
    confines-failed headers (index_in s) (bitmap_in s) [] old new lbn block
    (λ l none _. header-apart headers (index_in s) (bitmap_in s) n lbn may some slot at l none) is

-- a header in use was written, or wasn't
pub header-wrote : (s : Structure) (headers : ℕ → Bool) (n lbn : ℕ) (block : List ℕ) (old new : Disk) → headers n ≡ true
    → is_in_use (index_in s) n ≡ true → lbn ≡ header_lbn (index_in s) n
    → new ≡ with_transfer true (with_block_at lbn block old) → WritesInOrder old new → WritesParts s headers old new
header-wrote s headers n lbn block old new may used =
    slot-wrote s headers n lbn block old new may (in_use-some (index_in s) n used) (in_use-slot (index_in s) n used)

pub header-failed : (s : Structure) (headers : ℕ → Bool) (n lbn : ℕ) (block : List ℕ) (old new : Disk) → headers n ≡ true
    → is_in_use (index_in s) n ≡ true → lbn ≡ header_lbn (index_in s) n
    → (new ≡ with_transfer false old) ⊎ (new ≡ with_transfer false (with_block_at lbn block old)) → WritesInOrder old new
    → WritesParts s headers old new
header-failed s headers n lbn block old new may used =
    slot-failed s headers n lbn block old new may (in_use-some (index_in s) n used) (in_use-slot (index_in s) n used)

-- and no other
pub only-wrote : (s : Structure) (n lbn : ℕ) (block : List ℕ) (old new : Disk) → is_in_use (index_in s) n ≡ true
    → lbn ≡ header_lbn (index_in s) n → new ≡ with_transfer true (with_block_at lbn block old) → WritesInOrder old new
    → WritesParts s (only_header n) old new
only-wrote s n lbn block old new = header-wrote s (only_header n) n lbn block old new (in-only n)

pub only-failed : (s : Structure) (n lbn : ℕ) (block : List ℕ) (old new : Disk) → is_in_use (index_in s) n ≡ true
    → lbn ≡ header_lbn (index_in s) n
    → (new ≡ with_transfer false old) ⊎ (new ≡ with_transfer false (with_block_at lbn block old)) → WritesInOrder old new
    → WritesParts s (only_header n) old new
only-failed s n lbn block old new = header-failed s (only_header n) n lbn block old new (in-only n)

-- a file's first header was read, and then written, or wasn't
pub first-wrote : (s : Structure) (f : FileId) (lbn : ℕ) (block next : List ℕ) (old read new : Disk)
    → FindsFile (index_in s) f block old read → lbn ≡ header_lbn (index_in s) f.number
    → new ≡ with_transfer true (with_block_at lbn next read) → WritesInOrder read new → WritesParts s (only_header f.number) old new
first-wrote s f lbn block next old read new found at wrote order =
    parts-behind s (only_header f.number) found.looked (only-wrote s f.number lbn next read new found.holds.header.in_use at wrote order)

pub first-failed : (s : Structure) (f : FileId) (lbn : ℕ) (block next : List ℕ) (old read new : Disk)
    → FindsFile (index_in s) f block old read → lbn ≡ header_lbn (index_in s) f.number
    → (new ≡ with_transfer false read) ⊎ (new ≡ with_transfer false (with_block_at lbn next read)) → WritesInOrder read new
    → WritesParts s (only_header f.number) old new
first-failed s f lbn block next old read new found at failed order =
    parts-behind s (only_header f.number) found.looked (only-failed s f.number lbn next read new found.holds.header.in_use at failed order)

-- a slot's bit
pub bit-went : (s : Structure) (headers : ℕ → Bool) (value : Bool) (n : ℕ) {old new : Disk} {most faults : ℕ} → 0 < n
    → n ≤ slots (index_in s) → Went (HasBitWritten value n (index_in s) old.image) old new most faults → WritesInOrder old new
    → WritesParts s headers old new
bit-went s headers value n {old = old} some slot went =
    confines-went headers (index_in s) (bitmap_in s) []
    (λ image wrote l none out.
    let at : wrote.written.bitmap_lbn ≡ (index_in s).bitmap_lbn = ap (λ (x : Index). x.bitmap_lbn) wrote.bit.one_block in
    let few = s.index.valid.few_slots in
    let within : bitmap_place n < length (index_in s).bitmap = omega (arith, some, slot, few) in
    ap (λ (i : Image). slice_get i l) wrote.image_is
    ∙ spares-other headers (index_in s) (bitmap_in s) [] old.image (wrote.written.bitmap_lbn + bitmap_place n)
    (bitmap_block wrote.written n)
    (λ k no _ same. no.index_bitmap (bitmap_place n) within (omega (arith, at, same))) l none out)
    went

pub bit-alike : (s after : Structure) (value : Bool) (n : ℕ) → SetsBit value n (index_in s) (index_in after) → bitmap_in after ≡ bitmap_in s
    → StandsAlike s after
bit-alike s after value n bit same = record {
  headers = ap (λ (x : Index). x.headers) bit.one_block;
  bitmap_lbn = ap (λ (x : Index). x.bitmap_lbn) bit.one_block;
  bitmap_blocks = ap (λ (x : Index). length x.bitmap) bit.one_block
      ∙ length-set (index_in s).bitmap (bitmap_place n) (bitmap_block (index_in after) n);
  places = ap (λ (b : Bitmap). b.places) same;
}

-- blocks of the storage bitmap
pub marks-went : (s : Structure) (headers : ℕ → Bool) (honest free : Bool) (lbn count : ℕ) {old new : Disk} {most faults : ℕ}
    → Went (Changing honest free (bitmap_in s) lbn count old.image) old new most faults → WritesInOrder old new
    → WritesParts s headers old new
marks-went s headers honest free lbn count {old = old} went =
    confines-went headers (index_in s) (bitmap_in s) []
    (λ image is. spares-bitmap headers (index_in s) (bitmap_in s) [] old.image image is.keeps) went

-- whichever they were
pub keeps-went : (s : Structure) (headers : ℕ → Bool) {P : Image → Type 0} {old new : Disk} {most faults : ℕ}
    → ((image : Image) → P image → KeepsOthers (bitmap_in s) old.image image) → Went P old new most faults → WritesInOrder old new
    → WritesParts s headers old new
keeps-went s headers {old = old} keeps went =
    confines-went headers (index_in s) (bitmap_in s) []
    (λ image is. spares-bitmap headers (index_in s) (bitmap_in s) [] old.image image (keeps image is)) went

-- a block among others was written, or wasn't
pub other-wrote : (s : Structure) (headers : ℕ → Bool) (others : List ℕ) (lbn : ℕ) (block : List ℕ) (old new : Disk)
    → is_in others lbn ≡ true → new ≡ with_transfer true (with_block_at lbn block old) → WritesInOrder old new
    → ConfinesTo s headers others old new
other-wrote s headers others lbn block old new is wrote =
    confines-write headers (index_in s) (bitmap_in s) others old new lbn block
    (λ l _ out same. false≢true (sym out ∙ ap (is_in others) (sym same) ∙ is)) wrote

pub other-failed : (s : Structure) (headers : ℕ → Bool) (others : List ℕ) (lbn : ℕ) (block : List ℕ) (old new : Disk)
    → is_in others lbn ≡ true
    → (new ≡ with_transfer false old) ⊎ (new ≡ with_transfer false (with_block_at lbn block old)) → WritesInOrder old new
    → ConfinesTo s headers others old new
other-failed s headers others lbn block old new is failed =
    confines-failed headers (index_in s) (bitmap_in s) others old new lbn block
    (λ l _ out same. false≢true (sym out ∙ ap (is_in others) (sym same) ∙ is)) failed

-- blocks are written as what is kept of an image tells
pub to-only : (s : Structure) (headers : ℕ → Bool) (others : List ℕ) (old new : Disk) → IsStructureFor s old
    → (IsTrue old.honest → ConfinesTo s headers others old new) → WritesOnly headers others (home_of s) old new
to-only s headers others old new for one = λ honest.
    let keeps = for.keeps honest in
    subst (λ (b : Bitmap). ConfinesInOrder headers (index_of old.image (home_of s)) b others old new) keeps.bitmap_is
    (subst (λ (i : Index). ConfinesInOrder headers i (bitmap_in s) others old new) keeps.index_is (one honest))

-- what stands in a list is in it
pub at-in : (xs : List ℕ) (i n : ℕ) → slice_get xs i ≡ Some n → is_in xs n ≡ true
at-in [] i n at = absurd (none-some n at)
at-in (x ∷ xs) zero n at = ap (λ (b : Bool). b || is_in xs n) (eq-eqb x n (same_Some x n at))
at-in (x ∷ xs) (suc i) n at = ap (λ (b : Bool). (x == n) || b) (at-in xs i n at) ∙ or-true (x == n)

-- a number among others and a run
grown-place : (hs : List ℕ) (most lbn count l n : ℕ) → 0 < n → n ≤ length (take most (hs ++ range_with_len lbn count))
    → (get_or hs (n - 1) 0 ≡ l → ¬ (n ≤ length hs))
    → is_in (range_with_len lbn count) l ≡ false → get_or (take most (hs ++ range_with_len lbn count)) (n - 1) 0 ≢ l
grown-place hs most lbn count l n some slot none out at =
    let run : List ℕ = range_with_len lbn count in
    let long = length-take most (hs ++ run) in
    let all = length-append hs run in
    let more = length-range_with_len lbn count in
    let kept : get_or (take most (hs ++ run)) (n - 1) 0 ≡ get_or (hs ++ run) (n - 1) 0 =
    get_or-take most (hs ++ run) (n - 1) 0 (omega (arith, some, slot, long)) in
    elim (cases_lt (n - 1) (length hs)) [
      | inl here ↦ none (sym (get_or_append_left hs run 0 (n - 1) here) ∙ sym kept ∙ at) (omega (arith, some, here))
      | inr behind ↦
          let within : n - 1 - length hs < count = omega (arith, some, slot, long, all, more, behind) in
          let is : lbn + (n - 1 - length hs) ≡ l = sym (get_or-range_with_len lbn count (n - 1 - length hs) 0 within)
          ∙ sym (get_or-append_right hs run (length hs) (n - 1) 0 refl behind) ∙ sym kept ∙ at in
          false≢true (sym out ∙ in-run lbn count l (omega (arith, is)) (omega (arith, is, within)))
    ]

-- the index file has these blocks more as slots
pub grows-within : (s after : Structure) (headers fewer : ℕ → Bool) (lbn count : ℕ) → ((n : ℕ) → fewer n ≡ true → headers n ≡ true)
    → index_in after ≡ with_blocks_behind (index_in s) lbn count → bitmap_in after ≡ bitmap_in s
    → StandsWithin s headers (range_with_len lbn count) after fewer
unfolding header_lbn
grows-within s after headers fewer lbn count may grown same l none out = record {
  header = λ n is some slot at.
      let long = ap (λ (x : Index). length x.headers) grown in
      grown-place (index_in s).headers (min (4096 * length (index_in s).bitmap) 65535) lbn count l n some (omega (arith, slot, long))
      (λ here low. none.header n (may n is) some low here) out (ap (λ (x : Index). get_or x.headers (n - 1) 0) (sym grown) ∙ at);
  index_bitmap = λ k within at. none.index_bitmap k (let size = ap (λ (x : Index). length x.bitmap) grown in omega (arith, within, size))
      (ap (λ (x : Index). x.bitmap_lbn + k) (sym grown) ∙ at);
  storage = λ i within at. none.storage i (let size = ap (λ (b : Bitmap). length b.places) same in omega (arith, within, size))
      (ap (λ (b : Bitmap). get_or b.places i 0) (sym same) ∙ at);
}

-- parts that are within others, one after another
pub stands-along : (s t u : Structure) (headers later last : ℕ → Bool) (others more : List ℕ)
    → ((l : ℕ) → is_in others l ≡ false → is_in more l ≡ false) → StandsWithin s headers others t later → StandsWithin t later more u last
    → StandsWithin s headers others u last
stands-along s t u headers later last others more fewer one two l none out = two l (one l none out) (fewer l out)

-- what is in neither of two
pub out-front : (xs ys : List ℕ) (l : ℕ) → is_in (xs ++ ys) l ≡ false → is_in xs l ≡ false
out-front xs ys l out = elim (cases_Bool (is_in xs l)) [
  | inl is ↦ absurd (false≢true (sym out ∙ in-append xs ys l ∙ ap (λ (b : Bool). b || is_in ys l) is))
  | inr none ↦ none
]

out-behind : (xs ys : List ℕ) (l : ℕ) → is_in (xs ++ ys) l ≡ false → is_in ys l ≡ false
out-behind xs ys l out = elim (cases_Bool (is_in ys l)) [
  | inl is ↦ absurd (false≢true (sym out ∙ in-append xs ys l ∙ ap (λ (b : Bool). is_in xs l || b) is ∙ or-true (is_in xs l)))
  | inr none ↦ none
]

-- blocks that are free yet were before
pub fewer-free : (a b : List ℕ) (taken : ℕ) → b ≡ drop taken a → (l : ℕ) → is_in a l ≡ false → is_in b l ≡ false
fewer-free a b taken is l out =
    ap (λ (xs : List ℕ). is_in xs l) is
    ∙ out-behind (take taken a) (drop taken a) l (ap (λ (xs : List ℕ). is_in xs l) (take-append-drop taken a) ∙ out)

-- an index file for which room was reserved
pub reserved-alike : (s : Structure) (after : IndexFile) → index_kept after ≡ index_in s → StandsAlike s (record s { index = after })
reserved-alike s after kept = record {
  headers = ap (λ (x : Index). x.headers) kept;
  bitmap_lbn = ap (λ (x : Index). x.bitmap_lbn) kept;
  bitmap_blocks = ap (λ (x : Index). length x.bitmap) kept;
  places = refl;
}
