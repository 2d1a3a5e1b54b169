-- The words behind options, as the end of all.
use Rattle.std.proofs.Common.{◌≡◌, ℕ, ◌+◌, ◌-◌, ◌<◌, min, inl, inr, Bool, true, false, if◌then◌else◌, List, [], ◌∷◌, ◌++◌, Option, Some}
use Rattle.std.proofs.Common.{None}
use Rattle.std.proofs.Common.{length, take, drop, map, get_or, codes, refl, sym, ap, ◌∙◌, arith}
use Rattle.std.proofs.lemmas.Bool.{cases_lt}
use Rattle.std.proofs.lemmas.List.{append_assoc, drop-map, drop_all, length-append, length-map, take-append-drop}
use Rattle.std.proofs.Math.Seq.{drop-append-add}
use Rattle.std.specs.Str.{bytes_eq}
use Rattle.f11_words.specs.Hosts.{HostsStandBehind, StandsBefore, behind_options, hosts_behind, other_hosts, places_in}
use Rattle.f11_words.specs.Lines.{is_option, put_each_line, rt_put_each_line}
use Rattle.f11_words.specs.declared.words.Manner.{Manner}
use Rattle.f11_words.specs.declared.words.Manner.TheVariants.{GoesOn, Stops, Tells}

-- behind a mode stands another word
pub mode-behind : {X : Type 0} (f : X → List ℕ) (words : List X) (d : X) → 1 < length words
    → bytes_eq (f (get_or words 0 d)) (codes "--mode") ≡ true
    → behind_options (map f (drop 1 (drop 1 words))) ≡ behind_options (map f words)
mode-behind f [] d some is = absurd (omega (arith, some))
mode-behind f (w ∷ []) d some is = absurd (omega (arith, some))
mode-behind f (w ∷ n ∷ words) d some is = rw is refl

-- Some texts are the last of all.
pub record IsEnd (all last : List (List ℕ)) : Type 0 where
  pub front : List (List ℕ)
  pub parts : all ≡ front ++ last

more : (w : List ℕ) (all last : List (List ℕ)) → IsEnd all last → IsEnd (w ∷ all) last
more w all last e = record { front = w ∷ e.front; parts = ap (λ (xs : List (List ℕ)). w ∷ xs) e.parts }

whole : (all : List (List ℕ)) → IsEnd all all
whole all = record { front = []; parts = refl }

behind-end : (words : List (List ℕ)) → IsEnd words (behind_options words)
behind-end [] = whole []
behind-end (w ∷ []) = by (is_option w)
  where
    by : (b : Bool) → IsEnd (w ∷ []) (if b then [] else w ∷ [])
    by true = more w [] [] (whole [])
    by false = whole (w ∷ [])
behind-end (w ∷ n ∷ words) = by (bytes_eq w (codes "--mode")) (is_option w) (behind-end words) (behind-end (n ∷ words))
  where
    by : (b c : Bool) → IsEnd words (behind_options words) → IsEnd (n ∷ words) (behind_options (n ∷ words))
        → IsEnd (w ∷ n ∷ words) (if b then behind_options words else (if c then behind_options (n ∷ words) else w ∷ n ∷ words))
    by true c e d = more w (n ∷ words) (behind_options words) (more n words (behind_options words) e)
    by false true e d = more w (n ∷ words) (behind_options (n ∷ words)) d
    by false false e d = whole (w ∷ n ∷ words)

-- so many less than the last stand at the end of all
end-drop : (all last : List (List ℕ)) (n : ℕ) → IsEnd all last
    → drop (length all - min (length last - n) (length all)) all ≡ drop n last
end-drop all last n e =
    let total : length all ≡ length e.front + length last = ap length e.parts ∙ length-append e.front last in
    elim (cases_lt (length last) n) as (λ _. drop (length all - min (length last - n) (length all)) all ≡ drop n last) [
      | inl few ↦
          drop_all (length all - min (length last - n) (length all)) all (omega (arith, few))
          ∙ sym (drop_all n last (omega (arith, few)))
      | inr enough ↦
          let at : length all - min (length last - n) (length all) ≡ length e.front + n = omega (arith, total, enough) in
          ap (λ (k : ℕ). drop k all) at
          ∙ ap (λ (xs : List (List ℕ)). drop (length e.front + n) xs) e.parts
          ∙ drop-append-add e.front last n
    ]

-- the words behind the first ones are the last of all
drop-end : (all last : List (List ℕ)) (n : ℕ) → IsEnd (drop n all) last → IsEnd all last
drop-end all last n e = record {
  front = take n all ++ e.front;
  parts = sym (take-append-drop n all) ∙ ap (λ (xs : List (List ℕ)). take n all ++ xs) e.parts
      ∙ sym (append_assoc (take n all) e.front last);
}

drop-drop : {X : Type 0} (xs : List X) → drop 1 (drop 1 xs) ≡ drop 2 xs
drop-drop [] = refl
drop-drop (x ∷ xs) = refl

-- of a command that takes several files of the host the others are those,
pub others-behind : {X : Type 0} (f : X → List ℕ) (words places : List X) (n : ℕ) → places_in (map f words) ≡ Some n
    → map f places ≡ behind_options (map f (drop 1 (drop 1 words)))
    → map f (drop (length words - min (length places - n) (length words)) words) ≡ other_hosts (map f words)
others-behind {X} f words places n is at =
    let here : map f places ≡ behind_options (drop 2 (map f words)) =
    at ∙ ap (λ (xs : List X). behind_options (map f xs)) (drop-drop words) ∙ ap behind_options (sym (drop-map f 2 words))
    in
    let count : length words ≡ length (map f words) = sym (length-map words f) in
    let few : length places ≡ length (behind_options (drop 2 (map f words))) = sym (length-map places f) ∙ ap length here in
    sym (drop-map f (length words - min (length places - n) (length words)) words)
    ∙ ap (λ (m : ℕ). drop (m - min (length places - n) m) (map f words)) count
    ∙ ap (λ (m : ℕ). drop (length (map f words) - min (m - n) (length (map f words))) (map f words)) few
    ∙ end-drop (map f words) (behind_options (drop 2 (map f words))) n
    (drop-end (map f words) (behind_options (drop 2 (map f words))) 2 (behind-end (drop 2 (map f words))))
    ∙ sym (ap (λ (o : Option ℕ). hosts_behind o (map f words)) is)

-- a word that is no option isn't `--mode`,
no-mode : (word : List ℕ) → is_option word ≡ false → bytes_eq word (codes "--mode") ≡ false
no-mode [] plain = refl
no-mode (b ∷ word) plain = rw plain refl

-- and options end before it
ends-before : (word next : List ℕ) (words : List (List ℕ)) → is_option word ≡ false
    → behind_options (word ∷ next ∷ words) ≡ word ∷ next ∷ words
ends-before word next words plain = rw (no-mode word plain, plain) refl

-- so the other files stand behind each line of `put --each`
put-before : (manner : Manner) (fitted : Bool) (mode : Option (List ℕ)) (image dir host : List ℕ)
    → StandsBefore (put_each_line manner fitted mode image dir host)
put-before GoesOn false None image dir host program others plain =
    ap (drop 3) (ends-before image dir (host ∷ others) (plain 0 [] (omega arith)))
put-before Stops false None image dir host program others plain =
    ap (drop 3) (ends-before image dir (host ∷ others) (plain 0 [] (omega arith)))
put-before Tells false None image dir host program others plain =
    ap (drop 3) (ends-before image dir (host ∷ others) (plain 0 [] (omega arith)))
put-before GoesOn true None image dir host program others plain =
    ap (drop 3) (ends-before image dir (host ∷ others) (plain 0 [] (omega arith)))
put-before Stops true None image dir host program others plain =
    ap (drop 3) (ends-before image dir (host ∷ others) (plain 0 [] (omega arith)))
put-before Tells true None image dir host program others plain =
    ap (drop 3) (ends-before image dir (host ∷ others) (plain 0 [] (omega arith)))
put-before GoesOn false (Some mode) image dir host program others plain =
    ap (drop 3) (ends-before image dir (host ∷ others) (plain 1 [] (omega arith)))
put-before Stops false (Some mode) image dir host program others plain =
    ap (drop 3) (ends-before image dir (host ∷ others) (plain 1 [] (omega arith)))
put-before Tells false (Some mode) image dir host program others plain =
    ap (drop 3) (ends-before image dir (host ∷ others) (plain 1 [] (omega arith)))
put-before GoesOn true (Some mode) image dir host program others plain =
    ap (drop 3) (ends-before image dir (host ∷ others) (plain 1 [] (omega arith)))
put-before Stops true (Some mode) image dir host program others plain =
    ap (drop 3) (ends-before image dir (host ∷ others) (plain 1 [] (omega arith)))
put-before Tells true (Some mode) image dir host program others plain =
    ap (drop 3) (ends-before image dir (host ∷ others) (plain 1 [] (omega arith)))

-- and each of `rt-put --each`
rt-put-before : (manner : Manner) (fitted : Bool) (mode : Option (List ℕ)) (rt host : List ℕ)
    → StandsBefore (rt_put_each_line manner fitted mode rt host)
rt-put-before GoesOn false None rt host program others plain =
    ap (drop 2) (ends-before rt host others (plain 0 [] (omega arith)))
rt-put-before Stops false None rt host program others plain =
    ap (drop 2) (ends-before rt host others (plain 0 [] (omega arith)))
rt-put-before Tells false None rt host program others plain =
    ap (drop 2) (ends-before rt host others (plain 0 [] (omega arith)))
rt-put-before GoesOn true None rt host program others plain =
    ap (drop 2) (ends-before rt host others (plain 0 [] (omega arith)))
rt-put-before Stops true None rt host program others plain =
    ap (drop 2) (ends-before rt host others (plain 0 [] (omega arith)))
rt-put-before Tells true None rt host program others plain =
    ap (drop 2) (ends-before rt host others (plain 0 [] (omega arith)))
rt-put-before GoesOn false (Some mode) rt host program others plain =
    ap (drop 2) (ends-before rt host others (plain 1 [] (omega arith)))
rt-put-before Stops false (Some mode) rt host program others plain =
    ap (drop 2) (ends-before rt host others (plain 1 [] (omega arith)))
rt-put-before Tells false (Some mode) rt host program others plain =
    ap (drop 2) (ends-before rt host others (plain 1 [] (omega arith)))
rt-put-before GoesOn true (Some mode) rt host program others plain =
    ap (drop 2) (ends-before rt host others (plain 1 [] (omega arith)))
rt-put-before Stops true (Some mode) rt host program others plain =
    ap (drop 2) (ends-before rt host others (plain 1 [] (omega arith)))
rt-put-before Tells true (Some mode) rt host program others plain =
    ap (drop 2) (ends-before rt host others (plain 1 [] (omega arith)))

pub stand-behind : HostsStandBehind
stand-behind = record { put = put-before; rt_put = rt-put-before }
