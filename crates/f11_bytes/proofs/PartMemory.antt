-- A part of an array is lent on as a slice over the same memory, and the array follows the new name. Assumes `Logic`.
use mathlib.Core.Path.{◌≡◌, refl, sym, ap, ◌∙◌}
use Prim.Native.Nat.{ℕ, ◌+◌, ◌-◌, ◌*◌, ◌^◌, ◌<◌, ◌≤◌}
use native.Mathlib.Nat.{mul-le-mul_right}
use native.Mathlib.Omega.{arith}
use mathlib.Core.List.{List, [], ◌∷◌, ◌++◌}
use lib.ListN.{length, take, drop as drop_list, take-append-drop, length-append, length-drop}
use seplogic.Ra.Ura.{Ura}
use mir.Syntax.{Lifetime}
use mir.Val.{Val}
use base.Fraction.{full_share}
use base.Logic.{SProp, ent, sep, ex, guard}
use base.Fml.{Lft, GName, Share, fsep, feq, flft}
use types.Logic.{Logic, sem}
use types.Kit.{Item, ‵, ◌⊛◌, given, later, some, ◌$◌, ◌∵◌, !, qed, by, move, drop, fsplit, fsplit3, fjoin, feq_l, feq_i, updating, await}
use types.Kit.{learn, check, use1, use2, group, pick, now, show, done, split, join, rewrite}
use types.SemTy.{cells}
use types.Mut.{open_ref}
use denote.RattleType.{RattleType}
use denote.Memory.{mem, part_at}
use denote.Array.{Array}
use denote.ArrayMemory.{Single, Array-apart, Array-whole}
use denote.Index.{row, whole_in, whole_out}
use denote.Ref.{MutRef}
use denote.Slice.{MutSlice, Room, slice_val}
use denote.Follow.{follows}
use denote.FollowSlice.{lends_Elements}
use borrow.Table.Elements.{at, at_mul, cut_app, join_app, length-take-le}
use Rattle.std.proofs.lemmas.List.{drop-drop}

module _ {M : Type 1} {𝓤 : Ura M} (𝓛 : Logic 𝓤) (R : RattleType) (single : Single R.mir) (n : ℕ) (ℓ : Lifetime) (κ : Lft) (q : Share)
    (b o : ℕ) (γ : GName)
    (xs : List R.Denot) (from to : ℕ) (ordered : from ≤ to) (within : to ≤ n) (start : ℕ) (starts : from * (mem R).size + o ≡ start) where
  open 𝓛 use {H, A}

  abbrev S : RattleType
  S = Array R n

  -- an array in memory is its elements, and back
  elements_out : (ws : List R.Denot) → ent 𝓤 (sem 𝓛 ((mem S).own_at ws b o)) (guard 𝓤 (length ws ≡ n) (sem 𝓛 (cells (mem R) ws b o)))
  elements_out ws = qed 𝓛 (‵ (part_at S full_share ws b o) ∷ []) ∵
      use1 𝓛 (‵ (fsep (feq ℕ (length ws) n) (row R full_share ws b o))) (Array-apart 𝓛 R full_share single n ws b o) $ fsplit ! $ feq_l !
      (λ e.
      use1 𝓛 (‵ (cells (mem R) ws b o)) (whole_in 𝓛 R ws b o) $ check ! e $ done !)

  elements_in : (ws : List R.Denot) → length ws ≡ n → ent 𝓤 (sem 𝓛 (cells (mem R) ws b o)) (sem 𝓛 ((mem S).own_at ws b o))
  elements_in ws e = qed 𝓛 (‵ (cells (mem R) ws b o) ∷ []) ∵ use1 𝓛 (‵ (row R full_share ws b o)) (whole_out 𝓛 R ws b o) $
      feq_i ! ℕ (length ws) n e $ fjoin ! $ by ! (Array-whole 𝓛 R full_share n ws b o)

  abbrev size : ℕ
  size = (mem R).size

  -- the elements before the part, those in it, and those behind it
  abbrev front : List R.Denot
  front = take from xs

  abbrev pub mid : List R.Denot
  mid = take (to - from) (drop_list from xs)

  abbrev back : List R.Denot
  back = drop_list to xs

  -- the array with these elements in the place of as many others
  abbrev around : List R.Denot → List R.Denot
  around ws = front ++ (ws ++ drop_list (from + length ws) xs)

  -- the part, as so many elements, under a new name, the token, and what the array ends as
  abbrev lent : ℕ → GName → Item 𝓤
  lent k δ =
      ‵ ((MutSlice ℓ κ R).own_val (record { ref_ptr = (b, start); ghost_name = δ; now = mid }) (slice_val (b, start) k ∷ [])) ⊛ ‵ (flft κ q)
      ⊛ ‵ (follows S (Array R 0) γ δ around)

  -- the same as an item of a walk, and as an assertion, with its length
  abbrev pub part_lent : GName → Item 𝓤
  part_lent δ = given (length mid ≡ to - from) (lent (to - from) δ)

  abbrev PartLent : GName → SProp 𝓤
  PartLent δ =
      guard 𝓤 (length mid ≡ to - from)
      (sep 𝓤 (sem 𝓛 ((MutSlice ℓ κ R).own_val (record { ref_ptr = (b, start); ghost_name = δ; now = mid })
      (slice_val (b, start) (to - from) ∷ []))) (sep 𝓤 (A.lft κ q) (sem 𝓛 (follows S (Array R 0) γ δ around))))

  abbrev behind : ℕ → ℕ
  behind = at start size

  abbrev Others : SProp 𝓤
  Others = sep 𝓤 (sem 𝓛 (cells (mem R) front b o)) (sem 𝓛 (cells (mem R) back b (behind (length mid))))

  module _ (long : length xs ≡ n) where
    cut : xs ≡ front ++ (mid ++ back)
    cut =
        let rest : drop_list (to - from) (drop_list from xs) ≡ back = drop-drop (to - from) from xs
        ∙ ap (λ (k : ℕ). drop_list k xs) (omega (arith, ordered)) in
        sym (take-append-drop from xs)
        ∙ ap (λ (l : List R.Denot). front ++ l)
        (sym (take-append-drop (to - from) (drop_list from xs)) ∙ ap (λ (l : List R.Denot). mid ++ l) rest)

    count : length mid ≡ to - from
    count = length-take-le (to - from) (drop_list from xs) (omega (arith, long, ordered, within, length-drop from xs))

    on : at o size (length front) ≡ start
    on =
        at_mul o size (length front) ∙ ap (λ (k : ℕ). k * size + o) (length-take-le from xs (omega (arith, long, ordered, within))) ∙ starts

    put_part : (ws : List R.Denot) → length ws ≡ length mid
        → ent 𝓤 (sep 𝓤 (sem 𝓛 (cells (mem R) ws b start)) Others) (sem 𝓛 ((mem S).own_at (around ws) b o))
    put_part ws e =
        let whole : length xs ≡ length front + length (mid ++ back) = ap length cut ∙ length-append front (mid ++ back) in
        let inner : length (mid ++ back) ≡ length mid + length back = length-append mid back in
        let joined : List R.Denot = front ++ (ws ++ back) in
        let now_whole : length joined ≡ length front + length (ws ++ back) = length-append front (ws ++ back) in
        let now_inner : length (ws ++ back) ≡ length ws + length back = length-append ws back in
        let end : to ≡ from + length ws = omega (arith, e, count, ordered) in
        let same : joined ≡ around ws = ap (λ (k : ℕ). front ++ (ws ++ drop_list k xs)) end in
        let size : length joined ≡ n = omega arith in
        qed 𝓛 (‵ (cells (mem R) ws b start) ∷ ‵ (cells (mem R) front b o) ∷ ‵ (cells (mem R) back b (behind (length mid))) ∷ []) ∵
        rewrite ! 2 (λ (k : ℕ). ‵ (cells (mem R) back b (behind k))) (sym e) refl $ move ! (0 ∷ 2 ∷ []) $
        use2 𝓛 (‵ (cells (mem R) (ws ++ back) b start)) (join_app 𝓛 (mem R) ws back b start) $
        rewrite ! 0 (λ (k : ℕ). ‵ (cells (mem R) (ws ++ back) b k)) (sym on) refl $ move ! (1 ∷ 0 ∷ []) $
        use2 𝓛 (‵ (cells (mem R) joined b o)) (join_app 𝓛 (mem R) front (ws ++ back) b o) $
        rewrite ! 0 (λ (l : List R.Denot). ‵ (cells (mem R) l b o)) same refl $
        by ! (elements_in (around ws) (ap length (sym same) ∙ size))

  pub lends_part : n < 2 ^ 64 → n * size < 2 ^ 63 → (vs : List Val)
      → ent 𝓤 (sep 𝓤 (sem 𝓛 ((MutRef ℓ κ S).own_val (record { ref_ptr = (b, o); ghost_name = γ; now = xs }) vs)) (A.lft κ q))
      (H.⇛ (ex 𝓤 PartLent))
  lends_part few small vs =
      qed 𝓛 (‵ ((MutRef ℓ κ S).own_val (record { ref_ptr = (b, o); ghost_name = γ; now = xs }) vs) ∷ ‵ (flft κ q) ∷ []) ∵ updating ! $
      fsplit3 ! $ drop ! $
      open_ref ! tt (mem S) {b = b} {o = o} $
      use1 𝓛 (given (length xs ≡ n) (‵ (cells (mem R) xs b o))) (elements_out xs) $ learn ! (λ long.
      let bytes : length mid * size ≤ n * size = mul-le-mul_right size (omega (arith, count long, within)) in
      let room : Room R (length mid) = (omega (arith, count long, within, few), omega arith) in
      rewrite ! 0 (λ (l : List R.Denot). ‵ (cells (mem R) l b o)) (cut long) refl $
      use1 𝓛 (‵ (cells (mem R) front b o) ⊛ ‵ (cells (mem R) (mid ++ back) b (at o size (length front))))
      (cut_app 𝓛 (mem R) front (mid ++ back) b o) $ split ! $ move ! (1 ∷ []) $
      rewrite ! 0 (λ (k : ℕ). ‵ (cells (mem R) (mid ++ back) b k)) (on long) refl $
      use1 𝓛 (‵ (cells (mem R) mid b start) ⊛ ‵ (cells (mem R) back b (behind (length mid)))) (cut_app 𝓛 (mem R) mid back b start) $ split !
      $
      move ! (2 ∷ 1 ∷ []) $ join ! $ move ! (2 ∷ 3 ∷ 4 ∷ 1 ∷ 0 ∷ []) $ group ! 5 $
      use1 𝓛 (later (some (lent (length mid))))
      (lends_Elements 𝓛 S R around ℓ κ q b o b start γ mid room Others (put_part long) (S.coded.code xs) (S.coded.code xs)) $ await ! tt $
      pick ! (λ δ.
      rewrite ! 0 (λ (k : ℕ). lent k δ) (count long) refl $ now ! $ show ! PartLent δ $ check ! (count long) $ done !))
