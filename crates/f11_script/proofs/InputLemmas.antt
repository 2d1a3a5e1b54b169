-- Bytes that are read piece by piece.
use Rattle.std.proofs.Common.{◌≡◌, ◌≢◌, ◌⊎◌, inl, inr, All, ℕ, ◌+◌, ◌<◌, ◌≤◌, List, [], ◌∷◌, ◌++◌, length, take, drop, get_or, Option, Some}
use Rattle.std.proofs.Common.{None, Bool, true, false, ◌==◌, ◌-◌, if◌then◌else◌, refl, sym, ◌∙◌, ap, subst, arith, add-one, append_assoc}
use Rattle.std.proofs.Common.{drop-cons, length-append, length-drop, min}
use Rattle.std.specs.Io.KnownBytes.{Consumes, Keeps, IsAtEnd, prepend_known}
use Rattle.std.proofs.KnownBytes.{Consumes-trans, Consumes-kept, prepend_known-nil}
use Rattle.std.proofs.lemmas.Bool.{cases_lt, ne_eqb}
use Rattle.std.proofs.lemmas.List.{length-take-le, get_or-take, take_all, take-append-le, length-take, append-nil, drop-append-le}
use Rattle.std.proofs.lemmas.List.{drop-take, take-append-drop, take-take}
use Rattle.std.proofs.Math.Seq.{take-append-add}
use Rattle.std.proofs.lemmas.List.Elements.{All-append, All-replicate}
use Rattle.std.specs.List.{slice_split, onto_first, slice_index}
use Rattle.std.specs.Str.Lines.{lines, lines_of_parts, strip_carriage_return}
use Rattle.std.proofs.lemmas.List.Splits.{slice_split_at, slice_split_none}
use Rattle.f11_script.specs.Input.{bytes_left, HasByte, HasFirst, IsLine, TakesBytes, TakesLine, TakesNone}

-- what has no element
length-zero : (bytes : List ℕ) → length bytes ≡ 0 → bytes ≡ []
length-zero [] e = refl
length-zero (x ∷ xs) e = absurd (omega (arith, e))

-- the byte at hand, and those behind it
next_of_piece : (piece : List ℕ) (at end : ℕ) → at < end → end ≤ length piece →
    drop at (take end piece) ≡ get_or piece at 0 ∷ drop (at + 1) (take end piece)
next_of_piece piece at end below within =
    drop-cons (take end piece) at 0 (omega (arith, below, length-take-le end piece within))
    ∙ rw (get_or-take end piece at 0 below, add-one) refl

pub byte_taken : (a : Option (List ℕ)) (piece : List ℕ) (at end : ℕ) (known : Option (List ℕ)) → at < end → end ≤ length piece →
    Keeps a (bytes_left piece at end known) → Consumes a (bytes_left piece (at + 1) end known) (get_or piece at 0 ∷ [])
byte_taken None piece at end known below within kept = tt
byte_taken (Some xs) piece at end None below within kept = kept
byte_taken (Some xs) piece at end (Some rest) below within kept = sym kept ∙ ap (λ t. t ++ rest) (next_of_piece piece at end below within)

-- with a byte at hand one is left, and with none at hand what is left is the reader's
pub hand_has : (piece : List ℕ) (at end : ℕ) (known : Option (List ℕ)) → end ≤ length piece → 0 < end - at
    → HasByte (bytes_left piece at end known)
hand_has piece at end None within some = tt
hand_has piece at end (Some rest) within some = rw (next_of_piece piece at end (omega (arith, some)) within) (omega arith)

pub hand_empty : (piece : List ℕ) (at end : ℕ) (known : Option (List ℕ)) → at ≤ end → end ≤ length piece → end - at ≡ 0 →
    bytes_left piece at end known ≡ known
hand_empty piece at end known in_piece within none =
    ap (λ bs. prepend_known bs known)
    (length-zero (drop at (take end piece)) (omega (arith, none, length-drop at (take end piece), length-take-le end piece within)))
    ∙ prepend_known-nil known

-- the bytes of a line so far, and what is kept of them
pub record Collected (old new : Option (List ℕ)) (count counted : ℕ) (line : List ℕ) : Type 0 where
  pub bytes : List ℕ
  pub taken : Consumes old new bytes
  pub no_end : All (λ c. c ≢ 10) bytes
  pub number : counted ≡ count + length bytes
  pub kept : line ≡ take 1202 bytes

-- what is kept of some bytes more
clip : (bytes xs : List ℕ) → take 1202 (take 1202 bytes ++ xs) ≡ take 1202 (bytes ++ xs)
clip bytes xs = by_length (cases_lt 1202 (length bytes))
  where
    by_length : (1202 < length bytes) ⊎ (length bytes ≤ 1202) → take 1202 (take 1202 bytes ++ xs) ≡ take 1202 (bytes ++ xs)
    by_length (inr short) = ap (λ t. take 1202 (t ++ xs)) (take_all 1202 bytes short)
    by_length (inl long) =
        let full : length (take 1202 bytes) ≡ 1202 = length-take-le 1202 bytes (omega (arith, long)) in
        take-append-le 1202 (take 1202 bytes) xs (omega (arith, full))
        ∙ take_all 1202 (take 1202 bytes) (omega (arith, full))
        ∙ sym (take-append-le 1202 bytes xs (omega (arith, long)))

pub collected_bytes : (a b c : Option (List ℕ)) (n m k : ℕ) (line more : List ℕ) → Collected a b n m line → TakesBytes b c m k line more
    → Collected a c n k more
collected_bytes a b c n m k line more h t = record {
  bytes = h.bytes ++ t.bytes;
  taken = Consumes-trans a b c h.bytes t.bytes h.taken t.taken;
  no_end = All-append (λ y. y ≢ 10) h.bytes t.bytes h.no_end t.no_end;
  number = omega (arith, h.number, t.number, length-append h.bytes t.bytes);
  kept = t.kept ∙ ap (λ l. take 1202 (l ++ t.bytes)) h.kept ∙ clip h.bytes t.bytes;
}

-- and of one byte more
pub collected_more : (a b c : Option (List ℕ)) (n m k x : ℕ) (line more : List ℕ) → Collected a b n m line → Consumes b c (x ∷ []) → x ≢ 10
    →
    k ≡ m + 1 → more ≡ take 1202 (line ++ x ∷ []) → Collected a c n k more
collected_more a b c n m k x line more h next other counted is =
    collected_bytes a b c n m k line more h record {
      bytes = x ∷ [];
      taken = next;
      no_end = All-replicate (λ y. y ≢ 10) 1 x other;
      number = counted;
      kept = is;
    }

-- the bytes of a piece up to a place
pub bytes_taken : (piece : List ℕ) (at stop end : ℕ) (known : Option (List ℕ)) → at ≤ stop → stop ≤ end → end ≤ length piece →
    Consumes (bytes_left piece at end known) (bytes_left piece stop end known) (drop at (take stop piece))
bytes_taken piece at stop end None order within long = tt
bytes_taken piece at stop end (Some rest) order within long =
    ap (λ t. t ++ rest) split ∙ append_assoc (drop at (take stop piece)) (drop stop (take end piece)) rest
  where
    split : drop at (take end piece) ≡ drop at (take stop piece) ++ drop stop (take end piece)
    split =
        ap (drop at) (sym (take-append-drop stop (take end piece)))
        ∙ drop-append-le at (take stop (take end piece)) (drop stop (take end piece))
        (omega (arith, length-take stop (take end piece), length-take-le end piece long))
        ∙ ap (λ t. drop at t ++ drop stop (take end piece)) (take-take stop end piece within)

-- what is kept of the bytes of a piece, as far as there is room
pub kept_part : (line piece : List ℕ) (at end stop : ℕ) → at ≤ end → length line ≤ 1202 → stop ≡ min end (at + (1202 - length line)) →
    line ++ take (stop - at) (drop at piece) ≡ take 1202 (line ++ drop at (take end piece))
kept_part line piece at end stop order few is =
    ap (λ t. line ++ t) (by_room (cases_lt (1202 - length line) (end - at))) ∙ sym (split (take (end - at) (drop at piece)))
    ∙ ap (λ t. take 1202 (line ++ t)) (sym to_end)
  where
    to_end : drop at (take end piece) ≡ take (end - at) (drop at piece)
    to_end = let e : end ≡ at + (end - at) = omega arith in ap (λ n. drop at (take n piece)) e ∙ drop-take at (end - at) piece

    split : (xs : List ℕ) → take 1202 (line ++ xs) ≡ line ++ take (1202 - length line) xs
    split xs =
        let e : 1202 ≡ length line + (1202 - length line) = omega arith in ap (λ n. take n (line ++ xs)) e
        ∙ take-append-add line xs (1202 - length line)

    by_room : (1202 - length line < end - at) ⊎ (end - at ≤ 1202 - length line)
        → take (stop - at) (drop at piece) ≡ take (1202 - length line) (take (end - at) (drop at piece))
    by_room (inl full) =
        let e : stop - at ≡ 1202 - length line = omega arith in
        ap (λ n. take n (drop at piece)) e ∙ sym (take-take (1202 - length line) (end - at) (drop at piece) (omega arith))
    by_room (inr fits) =
        let e : stop - at ≡ end - at = omega arith in
        ap (λ n. take n (drop at piece)) e
        ∙ sym (take_all (1202 - length line) (take (end - at) (drop at piece)) (omega (arith, length-take (end - at) (drop at piece))))

-- what is kept of a byte, where there is room and where there is none
pub kept_room : (line : List ℕ) (x : ℕ) → length line < 1202 → line ++ x ∷ [] ≡ take 1202 (line ++ x ∷ [])
kept_room line x room = sym (take_all 1202 (line ++ x ∷ []) (omega (arith, room, length-append line (x ∷ []))))

pub kept_full : (line : List ℕ) (x : ℕ) → length line ≡ 1202 → line ≡ take 1202 (line ++ x ∷ [])
kept_full line x full =
    sym (take-append-le 1202 line (x ∷ []) (omega (arith, full)) ∙ take_all 1202 line (omega (arith, full)))

-- bytes without a line feed
no_ends : (bytes : List ℕ) → All (λ c. c ≢ 10) bytes → All (λ c. (c == 10) ≡ false) bytes
no_ends bytes h k d within = ne_eqb _ 10 (h k d within)

-- a line before others
lines-more : (line rest : List ℕ) → lines_of_parts (line ∷ slice_split (λ b. b == 10) rest) ≡ strip_carriage_return line ∷ lines rest
lines-more line [] = refl
lines-more line (c ∷ rest) = by_test (c == 10) (slice_split (λ b. b == 10) rest)
  where
    by_test : (b : Bool) (parts : List (List ℕ)) →
        lines_of_parts (line ∷ (if b then [] ∷ parts else onto_first c parts)) ≡ strip_carriage_return line ∷ lines_of_parts
        (if b then [] ∷ parts else onto_first c parts)
    by_test true parts = refl
    by_test false [] = refl
    by_test false (part ∷ parts) = refl

lines-ended : (line rest : List ℕ) → All (λ c. c ≢ 10) line → lines (line ++ 10 ∷ rest) ≡ strip_carriage_return line ∷ lines rest
lines-ended line rest h =
    ap lines_of_parts (slice_split_at (λ b. b == 10) line 10 rest (no_ends line h) refl) ∙ lines-more line rest

lines-last : (line : List ℕ) → 0 < length line → All (λ c. c ≢ 10) line → lines line ≡ line ∷ []
lines-last line some h =
    ap lines_of_parts (slice_split_none (λ b. b == 10) line (no_ends line h))
    ∙ ap (λ b. if b then [] else line ∷ []) (ne_eqb (length line) 0 (λ e. absurd (omega (arith, some, e))))

-- a line is at most one byte shorter than it was with its carriage return
length-strip : (line : List ℕ)
    → (length (strip_carriage_return line) ≤ length line) × (length line ≤ length (strip_carriage_return line) + 1)
length-strip line = by_test (slice_index line (length line - 1) == 13)
  where
    by_test : (b : Bool) → (length (if b then take (length line - 1) line else line) ≤ length line)
        × (length line ≤ length (if b then take (length line - 1) line else line) + 1)
    by_test true = let n = length-take-le (length line - 1) line (omega arith) in (omega (arith, n), omega (arith, n))
    by_test false = (omega arith, omega arith)

-- what is kept of a line, without its carriage return and with it
kept_line : (bytes : List ℕ) → IsLine (strip_carriage_return (take 1202 bytes)) (strip_carriage_return bytes)
kept_line bytes = by_length (cases_lt 1202 (length bytes))
  where
    by_length : (1202 < length bytes) ⊎ (length bytes ≤ 1202)
        → IsLine (strip_carriage_return (take 1202 bytes)) (strip_carriage_return bytes)
    by_length (inr short) =
        let same : take 1202 bytes ≡ bytes = take_all 1202 bytes short in
        record { short = λ h. ap strip_carriage_return same; long = λ h. rw same h }
    by_length (inl long) = record {
      short = λ h. absurd (omega (arith, h, long, (length-strip bytes).1));
      long = λ h. omega (arith, (length-strip (take 1202 bytes)).1, length-take-le 1202 bytes (omega (arith, long)));
    }

kept_last : (bytes : List ℕ) → IsLine (take 1202 bytes) bytes
kept_last bytes = by_length (cases_lt 1202 (length bytes))
  where
    by_length : (1202 < length bytes) ⊎ (length bytes ≤ 1202) → IsLine (take 1202 bytes) bytes
    by_length (inr short) =
        let same : take 1202 bytes ≡ bytes = take_all 1202 bytes short in
        record { short = λ h. same; long = λ h. rw same h }
    by_length (inl long) = record {
      short = λ h. absurd (omega (arith, h, long));
      long = λ h. omega (arith, length-take-le 1202 bytes (omega (arith, long)));
    }

-- a line that ends
first_of_ended : (a b c : Option (List ℕ)) (bytes : List ℕ) → Consumes a b bytes → Consumes b c (10 ∷ []) → All (λ c. c ≢ 10) bytes →
    HasFirst a c (strip_carriage_return bytes)
first_of_ended None b c bytes taken next no_end = tt
first_of_ended (Some xs) None c bytes taken next no_end = absurd taken
first_of_ended (Some xs) (Some ys) None bytes taken next no_end = absurd next
first_of_ended (Some xs) (Some ys) (Some zs) bytes taken next no_end =
    ap lines (taken ∙ ap (λ t. bytes ++ t) next) ∙ lines-ended bytes zs no_end

pub collected_line : (a b c : Option (List ℕ)) (n m k : ℕ) (line given : List ℕ) → Collected a b n m line → Consumes b c (10 ∷ []) →
    k ≡ m + 1 → k ≤ 16777216 → given ≡ strip_carriage_return line → TakesLine a c n k given
collected_line a b c n m k line given h next counted few is = record {
  bytes = h.bytes ++ 10 ∷ [];
  some = omega (arith, length-append h.bytes (10 ∷ []));
  taken = Consumes-trans a b c h.bytes (10 ∷ []) h.taken next;
  number = omega (arith, h.number, counted, length-append h.bytes (10 ∷ []));
  few = few;
  line = strip_carriage_return h.bytes;
  is_line = lines-ended h.bytes [] h.no_end;
  first = first_of_ended a b c h.bytes h.taken next h.no_end;
  handed_out = subst (λ (g : List ℕ). IsLine g (strip_carriage_return h.bytes)) (sym (is ∙ ap strip_carriage_return h.kept))
      (kept_line h.bytes);
}

-- the last line
first_of_last : (a b c : Option (List ℕ)) (bytes : List ℕ) → Consumes a b bytes → IsAtEnd b → Keeps b c → lines bytes ≡ bytes ∷ []
    → HasFirst a c bytes
first_of_last None b c bytes taken end kept is = tt
first_of_last (Some xs) None c bytes taken end kept is = absurd taken
first_of_last (Some xs) (Some ys) None bytes taken end kept is = absurd kept
first_of_last (Some xs) (Some ys) (Some zs) bytes taken end kept is =
    let all : xs ≡ bytes = taken ∙ ap (λ t. bytes ++ t) end ∙ append-nil bytes in
    let rest : zs ≡ [] = kept ∙ end in
    ap lines all ∙ is ∙ ap (λ t. bytes ∷ lines t) (sym rest)

pub collected_last : (a b c : Option (List ℕ)) (n m k : ℕ) (line : List ℕ) → Collected a b n m line → IsAtEnd b → Keeps b c →
    k ≡ m → k ≤ 16777216 → 0 < length line → TakesLine a c n k line
collected_last a b c n m k line h end kept counted few some =
    let some_bytes : 0 < length h.bytes = omega (arith, some, ap length h.kept, length-take 1202 h.bytes) in
    let is_line = lines-last h.bytes some_bytes h.no_end in
    record {
      bytes = h.bytes;
      some = some_bytes;
      taken = Consumes-kept a b c h.bytes h.taken kept;
      number = counted ∙ h.number;
      few = few;
      line = h.bytes;
      is_line = is_line;
      first = first_of_last a b c h.bytes h.taken end kept is_line;
      handed_out = subst (λ (g : List ℕ). IsLine g h.bytes) (sym h.kept) (kept_last h.bytes);
    }

-- no line: nothing was read, and at the end the script stays as it is
end_known : (a b : Option (List ℕ)) (bytes : List ℕ) → Consumes a b bytes → IsAtEnd b → bytes ≡ [] → IsAtEnd a
end_known None b bytes taken end none = tt
end_known (Some xs) None bytes taken end none = absurd taken
end_known (Some xs) (Some ys) bytes taken end none = taken ∙ ap (λ t. bytes ++ t) end ∙ append-nil bytes ∙ none

end_kept : (a b c : Option (List ℕ)) (bytes : List ℕ) → Consumes a b bytes → Keeps b c → bytes ≡ [] → Keeps a c
end_kept None b c bytes taken kept none = tt
end_kept (Some xs) None c bytes taken kept none = absurd taken
end_kept (Some xs) (Some ys) None bytes taken kept none = absurd kept
end_kept (Some xs) (Some ys) (Some zs) bytes taken kept none = kept ∙ sym (taken ∙ ap (λ t. t ++ ys) none)

pub collected_none_left : (a b c : Option (List ℕ)) (n m k : ℕ) (line : List ℕ) → Collected a b n m line → IsAtEnd b → Keeps b c →
    k ≡ m → length line ≡ 0 → TakesNone a c n k line
collected_none_left a b c n m k line h end kept counted none =
    let none_read : h.bytes ≡ [] = length-zero h.bytes (omega (arith, none, ap length h.kept, length-take 1202 h.bytes)) in
    record {
      at_end = end_known a b h.bytes h.taken end none_read;
      kept = end_kept a b c h.bytes h.taken kept none_read;
      number = omega (arith, counted, h.number, ap length none_read);
      nothing = length-zero line none;
    }
