-- An entry of an RT-11 directory (RT-11 Volume and File Formats Manual, "Directory Entry"). An entry is the list of its words: the status,
-- three words of name and type, the length, the job and channel, the date, and then the extra words.
use Rattle.std.specs.Prelude.{ℕ, ◌+◌, ◌/◌, ◌%◌, ◌==◌, ◌&&◌, Bool, if◌then◌else◌, List, [], ◌∷◌, ◌++◌, length, take, drop, replicate}
use Rattle.std.specs.Prelude.{slice_index}
use Rattle.std.specs.Int.{bit_at}
use Rattle.rt11_volume.specs.declared.area.RtKind.{RtKind}
use Rattle.rt11_volume.specs.declared.area.RtKind.TheVariants.{Tentative, Empty, Permanent}

-- the words of an entry with so many extra bytes
abbrev pub entry_size : ℕ → ℕ
entry_size extra = 7 + extra / 2

-- the status word
abbrev pub status : List ℕ → ℕ
status e = slice_index e 0

-- the two words of the name and the one of the type, in Radix-50
abbrev pub name_words : List ℕ → List ℕ
name_words e = slice_index e 1 ∷ slice_index e 2 ∷ slice_index e 3 ∷ []

-- the length of its area in blocks
abbrev pub area_length : List ℕ → ℕ
area_length e = slice_index e 4

-- the date
abbrev pub date : List ℕ → ℕ
date e = slice_index e 6

-- whether a bit of a status word is 1
abbrev pub has_bit : ℕ → ℕ → Bool
has_bit word k = bit_at word k == 1

-- octal 4000 in a status word: the end of the segment
abbrev pub is_end : ℕ → Bool
is_end word = has_bit word 11

-- octal 100000: the file is protected
abbrev pub is_protected : List ℕ → Bool
is_protected e = has_bit (status e) 15

-- a status is exactly one of tentative (octal 400), empty (octal 1000) and permanent (octal 2000)
abbrev pub is_one_kind : ℕ → Bool
is_one_kind word = bit_at word 8 + bit_at word 9 + bit_at word 10 == 1

-- the kind of an area with such a status
abbrev pub kind_of : ℕ → RtKind
kind_of word = if has_bit word 8 then Tentative else (if has_bit word 9 then Empty else Permanent)

-- and of one with such an entry
abbrev pub kind : List ℕ → RtKind
kind e = kind_of (status e)

-- the entry is of this kind and of no other
abbrev pub is_tentative : List ℕ → Bool
is_tentative e = is_one_kind (status e) && has_bit (status e) 8

abbrev pub is_empty : List ℕ → Bool
is_empty e = is_one_kind (status e) && has_bit (status e) 9

abbrev pub is_permanent : List ℕ → Bool
is_permanent e = is_one_kind (status e) && has_bit (status e) 10

-- the entry of an empty area of so many blocks, made here: nothing but its status and length (profile)
abbrev pub empty_entry : ℕ → ℕ → List ℕ
empty_entry extra blocks = 512 ∷ 0 ∷ 0 ∷ 0 ∷ blocks ∷ 0 ∷ 0 ∷ replicate (extra / 2) 0

-- the entry of a file made here, with no job, channel or extra words (profile)
abbrev pub file_entry : ℕ → List ℕ → ℕ → ℕ → List ℕ
file_entry extra name blocks day = 1024 ∷ (name ++ (blocks ∷ 0 ∷ day ∷ replicate (extra / 2) 0))

-- two names are the same
abbrev pub is_same_name : List ℕ → List ℕ → Bool
is_same_name a b = slice_index a 0 == slice_index b 0 && (slice_index a 1 == slice_index b 1 && slice_index a 2 == slice_index b 2)

-- the entry is that of a file of this name
abbrev pub is_file_named : List ℕ → List ℕ → Bool
is_file_named name e = is_permanent e && is_same_name (name_words e) name

-- words with some of them, from one on, replaced
abbrev pub with_words : List ℕ → ℕ → List ℕ → List ℕ
with_words s at ws = take at s ++ (ws ++ drop (at + length ws) s)

-- an entry with another name, and all else as it was (RT-11 System User's Guide, RENAME)
abbrev pub renamed_entry : List ℕ → List ℕ → List ℕ
renamed_entry name e = with_words e 1 name

-- a status word whose bit of protection, octal 100000, is 1 or 0
abbrev pub protected_status : Bool → ℕ → ℕ
protected_status on word = word % 32768 + (if on then 32768 else 0)

-- an entry that is protected, or isn't, and all else as it was (RT-11 System User's Guide, PROTECT and UNPROTECT)
abbrev pub protected_entry : Bool → List ℕ → List ℕ
protected_entry on e = with_words e 0 (protected_status on (status e) ∷ [])
