-- A script that is served as far as it was read.
use Rattle.std.proofs.Common.{◌≡◌, ℕ, ◌+◌, ◌<◌, ◌≤◌, List, [], ◌∷◌, ◌++◌, length, Err, Option, Some, None, IfSome, refl, sym, ◌∙◌, ap}
use Rattle.std.proofs.Common.{subst, arith, append_assoc, append-nil, length-append}
use Rattle.std.specs.Bool.{⊤}
use Rattle.std.specs.Io.KnownBytes.{Appends}
use Rattle.std.proofs.KnownBytes.{Appends-nil, Appends-trans}
use Rattle.std.specs.Str.Lines.{lines}
use Rattle.f11_script.specs.Answers.{AppendsSome}
use Rattle.f11_script.specs.Input.{TakesLine, TakesNone, TakesNoLine, IsReadError, HasByte}
use Rattle.f11_script.proofs.LineLemmas.{cut_line_is_alike}
use Rattle.f11_script.specs.declared.errors.ScriptError.{ScriptError}
use Rattle.f11_script.specs.declared.errors.ScriptError.TheVariants.{ReadFault, WriteFault, TooLong}
use Rattle.f11_serving.specs.Served.{Service, ServesLines, zeros}
use Rattle.f11_serving.specs.Serving.{Place, HasRead, Finishes, StopsReading, StopsWriting, ServesScript, AnswersLine}
use Rattle.f11_serving.proofs.ServedLemmas.{parts-are-served, one-alike}

-- the lines that were read of these bytes, and what is left of them
abbrev pub ReadTo : Option (List ℕ) → Option (List ℕ) → List (List ℕ) → ℕ → Type 0
ReadTo None left read n = ⊤
ReadTo (Some xs) None read n = ⊥
ReadTo (Some xs) (Some ys) read n = (whole : List ℕ) × (xs ≡ whole ++ ys) × (lines xs ≡ read ++ lines ys) × (n ≡ length whole)

read-self : (a : Option (List ℕ)) → ReadTo a a [] 0
read-self None = tt
read-self (Some xs) = ([], refl, refl, refl)

read-none : (a b : Option (List ℕ)) (n : ℕ) → b ≡ a → n ≡ 0 → ReadTo a b [] n
read-none a b n e z = subst (λ k. ReadTo a b [] k) (sym z) (subst (λ (x : Option (List ℕ)). ReadTo a x [] 0) (sym e) (read-self a))

read-more : (a b c : Option (List ℕ)) (read : List (List ℕ)) (n m : ℕ) (given : List ℕ) → ReadTo a b read n → (t : TakesLine b c n m given)
    →
    ReadTo a c (read ++ t.line ∷ []) m
read-more None b c read n m given h t = tt
read-more (Some xs) None c read n m given h t = absurd h
read-more (Some xs) (Some ys) None read n m given h t = absurd t.first
read-more (Some xs) (Some ys) (Some zs) read n m given h t = (
  h.0 ++ t.bytes,
  h.1 ∙ ap (λ r. h.0 ++ r) t.taken ∙ sym (append_assoc h.0 t.bytes zs),
  h.2 ∙ ap (λ r. read ++ r) t.first ∙ sym (append_assoc read (t.line ∷ []) (lines zs)),
  omega (arith, h.3, t.number, length-append h.0 t.bytes),
)

read-all : (a b c : Option (List ℕ)) (read : List (List ℕ)) (n m : ℕ) (given : List ℕ) → ReadTo a b read n → TakesNone b c n m given →
    IfSome a (λ xs. (lines xs ≡ read) × (c ≡ Some []) × (length xs ≡ m))
read-all None b c read n m given h t = tt
read-all (Some xs) None c read n m given h t = absurd h
read-all (Some xs) (Some ys) None read n m given h t = absurd t.kept
read-all (Some xs) (Some ys) (Some zs) read n m given h t = (
  h.2 ∙ ap (λ r. read ++ lines r) t.at_end ∙ append-nil read,
  ap (λ r. Some r) (t.kept ∙ t.at_end),
  omega (arith, ap length h.1, length-append h.0 ys, ap length t.at_end, h.3, t.number),
)

read-part : (a b c : Option (List ℕ)) (read : List (List ℕ)) (n m : ℕ) → ReadTo a b read n → TakesNoLine b c n m → HasRead a c read m
read-part None b c read n m h t = tt
read-part (Some xs) None c read n m h t = absurd h
read-part (Some xs) (Some ys) None read n m h t = absurd t.taken
read-part (Some xs) (Some ys) (Some zs) read n m h t = record {
  whole = h.0;
  part = t.bytes;
  bytes_are = h.1 ∙ ap (λ r. h.0 ++ r) t.taken;
  first = h.2 ∙ ap (λ r. read ++ lines r) t.taken;
  no_end = t.no_end;
  count_is = omega (arith, h.3, t.number);
}

read-whole : (a b : Option (List ℕ)) (read : List (List ℕ)) (n : ℕ) → ReadTo a b read n → HasRead a b read n
read-whole None b read n h = tt
read-whole (Some xs) None read n h = absurd h
read-whole (Some xs) (Some ys) read n h = record {
  whole = h.0;
  part = [];
  bytes_are = h.1;
  first = h.2;
  no_end = λ k d within. absurd (omega (arith, within));
  count_is = omega (arith, h.3);
}

-- the lines so far, from the beginning to where the script is now
pub record SoFar {V : Type 0} (S : Service V) (bytes left : Option (List ℕ)) (old new : V) (block : List ℕ)
    (written written' : Option (List ℕ)) (count taken : ℕ) : Type 0 where
  pub read : List (List ℕ)
  pub to : ReadTo bytes left read taken
  pub text : List ℕ
  pub serves : ServesLines S read old zeros text count new block
  pub wrote : Appends written written' text
  pub few : count ≤ taken

pub so-far-none : {V : Type 0} (S : Service V) (bytes left : Option (List ℕ)) (v : V) (written : Option (List ℕ)) (taken : ℕ) →
    left ≡ bytes → taken ≡ 0 → SoFar S bytes left v v zeros written written 0 taken
so-far-none S bytes left v written taken e z = record {
  read = [];
  to = read-none bytes left taken e z;
  text = [];
  serves = (refl, refl, refl, refl);
  wrote = Appends-nil written;
  few = omega arith;
}

-- a line as it is in the script
whole-line : {V : Type 0} (S : Service V) (b c : Option (List ℕ)) (n m : ℕ) (given block block' text : List ℕ) (count : ℕ) (v w : V) →
    (t : TakesLine b c n m given) → ServesLines S (given ∷ []) v block text count w block'
    → ServesLines S (t.line ∷ []) v block text count w block'
whole-line S b c n m given block block' text count v w t h =
    one-alike S given t.line block block' text count v w (cut_line_is_alike given t.line block t.handed_out) h

pub so-far-more : {V : Type 0} (S : Service V) (a b c : Option (List ℕ)) (old v u : V) (block block' : List ℕ) (w0 w w' : Option (List ℕ))
    (count n m : ℕ) (given text : List ℕ) (number more : ℕ) → SoFar S a b old v block w0 w count n → TakesLine b c n m given →
    ServesLines S (given ∷ []) v block text number u block' → Appends w w' text → number ≤ 1 → count + number ≡ more →
    SoFar S a c old u block' w0 w' more m
so-far-more S a b c old v u block block' w0 w w' count n m given text number more h t serves wrote small is =
    subst (λ k. SoFar S a c old u block' w0 w' k m) is (record {
      read = h.read ++ t.line ∷ [];
      to = read-more a b c h.read n m given h.to t;
      text = h.text ++ text;
      serves = parts-are-served S h.read (t.line ∷ []) old v u zeros block block' h.text text count number h.serves
          (whole-line S b c n m given block block' text number v u t serves);
      wrote = Appends-trans w0 w w' h.text text h.wrote wrote;
      few = omega (arith, h.few, small, t.number, t.some);
    })

pub so-far-ends : {V : Type 0} (S : Service V) (a b : Option (List ℕ)) (place : Place) (old v : V) (block : List ℕ) (w0 w : Option (List ℕ))
    (count n : ℕ) (given : List ℕ) → SoFar S a b old v block w0 w count n → TakesNone b place.left n place.count given
    → place.count ≤ 16777216 →
    Finishes S a place old v w0 w count
so-far-ends S a b place old v block w0 w count n given h t few = record {
  read = h.read;
  all = read-all a b place.left h.read n place.count given h.to t;
  few = few;
  answers = record { text = h.text; block = block; serves = h.serves; wrote = h.wrote };
}

so-far-stops : {V : Type 0} (S : Service V) (a b : Option (List ℕ)) (place : Place) (old v : V) (block : List ℕ) (w0 w : Option (List ℕ))
    (count n : ℕ) → SoFar S a b old v block w0 w count n → TakesNoLine b place.left n place.count → place.count ≤ 16777216 →
    StopsReading S a place old v w0 w
so-far-stops S a b place old v block w0 w count n h t few = record {
  read = h.read;
  reads = read-part a b place.left h.read n place.count h.to t;
  few = few;
  count = count;
  answers = record { text = h.text; block = block; serves = h.serves; wrote = h.wrote };
}

pub so-far-fails : {V : Type 0} (S : Service V) (a b : Option (List ℕ)) (place : Place) (old v : V) (block : List ℕ)
    (w0 w : Option (List ℕ))
    (count n : ℕ) (e : ScriptError) → SoFar S a b old v block w0 w count n
    → TakesNoLine b place.left n place.count × IsReadError e place.count place.hand →
    (0 < place.hand → HasByte place.left) → place.count ≤ 16777216 → ServesScript S a place old v w0 w (Err e)
so-far-fails S a b place old v block w0 w count n ReadFault h t has few = (so-far-stops S a b place old v block w0 w count n h t.0 few, t.1)
so-far-fails S a b place old v block w0 w count n TooLong h t has few =
    (so-far-stops S a b place old v block w0 w count n h t.0 few, t.1.0, t.1.1, has t.1.1)
so-far-fails S a b place old v block w0 w count n WriteFault h t has few = absurd t.1

so-far-breaks : {V : Type 0} (S : Service V) (a b : Option (List ℕ)) (place : Place) (old v u : V) (block block' : List ℕ)
    (w0 w w' : Option (List ℕ))
    (count n : ℕ) (given text : List ℕ) (number : ℕ) → SoFar S a b old v block w0 w count n → TakesLine b place.left n place.count given →
    ServesLines S (given ∷ []) v block text number u block' → AppendsSome w w' text → place.count ≤ 16777216
    → StopsWriting S a place old u w0 w'
so-far-breaks S a b place old v u block block' w0 w w' count n given text number h t serves wrote few = record {
  few = few;
  read = h.read;
  last = t.line;
  reads = read-whole a place.left (h.read ++ t.line ∷ []) place.count (read-more a b place.left h.read n place.count given h.to t);
  count = count;
  between = v;
  block = block;
  text = h.text;
  serves = h.serves;
  last_count = number;
  last_block = block';
  last_text = text;
  serves_last = whole-line S b place.left n place.count given block block' text number v u t serves;
  middle = w;
  wrote = h.wrote;
  wrote_last = wrote;
}

pub so-far-fault : {V : Type 0} (S : Service V) (a b : Option (List ℕ)) (place : Place) (old v u : V) (block block' : List ℕ)
    (w0 w w' : Option (List ℕ))
    (count n : ℕ) (given : List ℕ) (e : ScriptError) → SoFar S a b old v block w0 w count n → TakesLine b place.left n place.count given →
    AnswersLine S given v u block block' w w' (Err e) → place.count ≤ 16777216 → ServesScript S a place old u w0 w' (Err e)
so-far-fault S a b place old v u block block' w0 w w' count n given e h t x few =
    subst (λ (k : ScriptError). ServesScript S a place old u w0 w' (Err k)) (sym x.4)
    (so-far-breaks S a b place old v u block block' w0 w w' count n given x.0 x.1 h t x.2 x.3 few)
