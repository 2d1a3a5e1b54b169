-- What a reader still gives of a text of the host.
use Rattle.std.proofs.Common.{◌≡◌, ℕ, ◌+◌, ◌≤◌, ◌==◌, Bool, List, [], ◌∷◌, ◌++◌, length, drop, take, sym, ap, ◌∙◌}
use Rattle.std.proofs.Common.{append_assoc, length-append, arith}
use Rattle.std.proofs.Math.Seq.{take-append_seam}
use Rattle.std.proofs.lemmas.List.{drop-drop, drop_min, length-take, take-append-drop}
use Rattle.std.specs.Prelude.{min, Option, Some, None, option_map}
use Rattle.std.specs.Io.KnownBytes.{Consumes, IsAtEnd, Keeps}
use Rattle.rt11_text.specs.Crs.{crs_behind, ends_in_cr, missing_cr}
use Rattle.rt11_text.proofs.CrsLemmas.{crs-append}

-- a text has no fewer bytes with the CRs that are missing
pub crs-many : (cr : Bool) (text : List ℕ) → length text ≤ length (crs_behind cr text)
unfolding crs_behind
crs-many cr [] = omega arith
crs-many cr (c ∷ text) =
    let both = length-append (missing_cr cr c) (c ∷ crs_behind (c == 13) text) in
    omega (arith, both, crs-many (c == 13) text)

-- more was read of the host, where nothing was left
pub reads-on : (left made piece : List ℕ) (cr cr' : Bool) (old new : Option (List ℕ)) → left ≡ [] → made ≡ crs_behind cr piece
    → cr' ≡ ends_in_cr cr piece → Consumes old new piece
    → Keeps (option_map (λ (t : List ℕ). left ++ crs_behind cr t) old) (option_map (λ (t : List ℕ). made ++ crs_behind cr' t) new)
reads-on left made piece cr cr' None new none is behind takes = tt
reads-on left made piece cr cr' (Some xs) None none is behind takes = takes
reads-on left made piece cr cr' (Some xs) (Some ys) none is behind takes =
    ap (λ (l : List ℕ). l ++ crs_behind cr' ys) is ∙ ap (λ (b : Bool). crs_behind cr piece ++ crs_behind b ys) behind
    ∙ sym (crs-append cr piece ys) ∙ ap (λ (l : List ℕ). crs_behind cr l) (sym takes)
    ∙ ap (λ (l : List ℕ). l ++ crs_behind cr xs) (sym none)

-- bytes were given of what was left
pub gives-on : (left rest given : List ℕ) (cr : Bool) (host : Option (List ℕ)) → left ≡ given ++ rest
    → Consumes (option_map (λ (t : List ℕ). left ++ crs_behind cr t) host) (option_map (λ (t : List ℕ). rest ++ crs_behind cr t) host) given
gives-on left rest given cr None is = tt
gives-on left rest given cr (Some xs) is =
    ap (λ (l : List ℕ). l ++ crs_behind cr xs) is ∙ append_assoc given rest (crs_behind cr xs)

pub keeps-consumes : (a b c : Option (List ℕ)) (bs : List ℕ) → Keeps a b → Consumes b c bs → Consumes a c bs
keeps-consumes None b c bs keeps takes = tt
keeps-consumes (Some xs) None c bs keeps takes = absurd keeps
keeps-consumes (Some xs) (Some ys) None bs keeps takes = takes
keeps-consumes (Some xs) (Some ys) (Some zs) bs keeps takes = sym keeps ∙ takes

-- nothing is left, and the host is at its end
pub at-end : (left : List ℕ) (cr : Bool) (host : Option (List ℕ)) → left ≡ [] → IsAtEnd host
    → IsAtEnd (option_map (λ (t : List ℕ). left ++ crs_behind cr t) host)
unfolding crs_behind
at-end left cr None none end = tt
at-end left cr (Some xs) none end =
    ap (λ (l : List ℕ). l ++ crs_behind cr xs) none ∙ ap (λ (l : List ℕ). crs_behind cr l) end

-- what was copied of a list from a place on, and what is left
pub copied-of : (at n : ℕ) (items copied behind : List ℕ) → copied ≡ take n (drop at items) → n ≤ length (drop at items)
    → drop at items ≡ take n (copied ++ behind) ++ drop (min at (length items) + n) items
copied-of at n items copied behind is few =
    sym (take-append-drop n (drop at items))
    ∙ ap (λ (l : List ℕ). take n (drop at items) ++ l) rest
    ∙ ap (λ (l : List ℕ). l ++ drop (min at (length items) + n) items) (sym (is-front ∙ is))
  where
    rest : drop n (drop at items) ≡ drop (min at (length items) + n) items
    rest = ap (λ (l : List ℕ). drop n l) (sym (drop_min at items)) ∙ drop-drop n (min at (length items)) items

    is-front : take n (copied ++ behind) ≡ copied
    is-front =
        let most : min n (length (drop at items)) ≡ n = omega (arith, few) in
        let size : length copied ≡ n = ap (λ (l : List ℕ). length l) is ∙ length-take n (drop at items) ∙ most in
        ap (λ k. take k (copied ++ behind)) (sym size) ∙ take-append_seam copied behind
