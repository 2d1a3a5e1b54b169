-- What a file is, in an image in which its headers are as they were.
use Rattle.std.proofs.Common.{Contains, All, ◌+◌, ◌-◌, ◌≡◌, ◌≢◌, ℕ, zero, suc, ◌<◌, List, [], ◌∷◌, length, map, Some, refl, sym, ap, ◌∙◌}
use Rattle.std.proofs.Common.{arith}
use Rattle.std.proofs.Math.ListN.{set}
use Rattle.std.specs.List.{slice_get, sum_by}
use Rattle.std.proofs.lemmas.List.{get_or-set_same, get_or-set_other}
use Rattle.std.proofs.lemmas.List.Sums.{sum_by-cons}
use Rattle.std.proofs.lemmas.Option.{same_Some, slice_get_within, slice_get-get_or}
use Rattle.f11_bytes.specs.Block.{zero_block}
use Rattle.f11_dev.specs.Image.{Image}
use Rattle.f11_volume.specs.header.Fields.{file_sequence, owner, protection, characteristics, attributes, ident_area, map_area}
use Rattle.f11_volume.specs.header.MapFields.{places}
use Rattle.f11_volume.specs.map.MapArea.{runs_of}
use Rattle.f11_index.specs.Headers.{headers_of}
use Rattle.f11_index.proofs.HeadersLemmas.{header-placed}
use Rattle.f11_index.specs.Laws.{BlocksStay}
use Rattle.f11_index.specs.Table.{Table, IsWholeFile, first}
use Rattle.f11_volume.specs.chain.FileHeaders.{file_blocks, IsSoundFile}
use Rattle.f11_volume.specs.Contents.{headers_reached, block_or_zeros, pointer_count, room_left, file_of}
use Rattle.f11_volume.proofs.FileLemmas.{reached-are, file-blocks-are}
use Rattle.f11_volume.proofs.MemberLemmas.{all-each, contained}
use Rattle.f11_writes.proofs.ImageLemmas.{same-read, same-or}

-- blocks that are alike
map-alike : (f g : ℕ → List ℕ) (xs : List ℕ) → ((i x : ℕ) → slice_get xs i ≡ Some x → f x ≡ g x) → map f xs ≡ map g xs
map-alike f g [] same = refl
map-alike f g (x ∷ xs) same =
    ap (λ (b : List ℕ). b ∷ map f xs) (same 0 x refl)
    ∙ ap (λ (bs : List (List ℕ)). g x ∷ bs) (map-alike f g xs (λ i y at. same (suc i) y at))

-- and one that isn't, which stands at one place only
map-but : (f g : ℕ → List ℕ) (lbn : ℕ) (block : List ℕ) (xs : List ℕ) (i : ℕ) → slice_get xs i ≡ Some lbn
    → ((j : ℕ) → slice_get xs j ≡ Some lbn → j ≡ i)
    → f lbn ≡ block → ((x : ℕ) → x ≢ lbn → f x ≡ g x) → map f xs ≡ set (map g xs) i block
map-but f g lbn block [] i at once here others = cc
map-but f g lbn block (x ∷ xs) zero at once here others =
    let is : x ≡ lbn = same_Some x lbn at in
    let rest = map-alike f g xs (λ j y there. others y (λ same. let place = once (suc j) (there ∙ ap Some same) in omega (arith, place))) in
    ap (λ (b : List ℕ). b ∷ map f xs) (ap f is ∙ here) ∙ ap (λ (bs : List (List ℕ)). block ∷ bs) rest
map-but f g lbn block (x ∷ xs) (suc i) at once here others =
    let front = others x (λ same. let place = once 0 (ap Some same) in omega (arith, place)) in
    ap (λ (b : List ℕ). b ∷ map f xs) front
    ∙ ap (λ (bs : List (List ℕ)). g x ∷ bs)
    (map-but f g lbn block xs i at (λ j there. let place = once (suc j) there in omega (arith, place)) here others)

-- what a sum is made of
sum-alike : (f g : ℕ → ℕ) (xs : List ℕ) → ((i x : ℕ) → slice_get xs i ≡ Some x → f x ≡ g x) → sum_by f xs ≡ sum_by g xs
sum-alike f g [] same = refl
sum-alike f g (x ∷ xs) same =
    sum_by-cons f x xs ∙ ap (λ (k : ℕ). k + sum_by f xs) (same 0 x refl)
    ∙ ap (λ (k : ℕ). g x + k) (sum-alike f g xs (λ i y at. same (suc i) y at)) ∙ sym (sum_by-cons g x xs)

-- two tables in which a file has the same headers
module _ (old new : Image) (t u : Table) (f : ℕ) (whole : IsWholeFile t f) (also : IsWholeFile u f)
    (headers : headers_of u f ≡ headers_of t f)
    (each : (n : ℕ) → Contains (headers_of t f) n → u.header n ≡ t.header n) where
  abbrev hs : List ℕ
  hs = headers_reached t f

  first-listed : slice_get (headers_of t f) 0 ≡ Some f
  first-listed =
      ap (slice_get (headers_of t f)) (sym whole.file.first) ∙ header-placed t f f (first whole.file) (omega (arith, whole.file.first))

  reached : headers_reached u f ≡ hs
  reached = reached-are 256 u f also (first also.file) ∙ headers ∙ sym (reached-are 256 t f whole (first whole.file))

  same-at : (i n : ℕ) → slice_get hs i ≡ Some n → u.header n ≡ t.header n
  same-at i n at =
      each n (contained (headers_of t f) i n (ap (λ (xs : List ℕ). slice_get xs i) (sym (reached-are 256 t f whole (first whole.file)))
      ∙ at))

  own : u.header f ≡ t.header f
  own = each f (contained (headers_of t f) 0 f first-listed)

  pointers : sum_by (pointer_count u) (headers_reached u f) ≡ sum_by (pointer_count t) hs
  pointers =
      ap (sum_by (pointer_count u)) reached
      ∙ sum-alike (pointer_count u) (pointer_count t) hs (λ i n at. ap (λ (b : List ℕ). length (runs_of (map_area b))) (same-at i n at))

  left : room_left u (headers_reached u f) ≡ room_left t hs
  left =
      let some : 0 < length hs =
      slice_get_within hs 0 f (ap (λ (xs : List ℕ). slice_get xs 0) (reached-are 256 t f whole (first whole.file)) ∙ first-listed) in
      let last = slice_get-get_or hs (length hs - 1) 0 (omega (arith, some)) in
      ap (room_left u) reached ∙ ap (λ (b : List ℕ). places (map_area b) - length (runs_of (map_area b))) (same-at (length hs - 1) _ last)

  -- says the same in both
  pub said-alike : record (file_of new u f) { blocks = [] } ≡ record (file_of old t f) { blocks = [] }
  unfolding file_of
  said-alike = λ i. record {
    sequence = file_sequence (own i);
    owner = owner (own i);
    protection = protection (own i);
    characteristics = characteristics (own i);
    ident = ident_area (own i);
    attr = attributes (own i);
    held = reached i;
    pointers = pointers i;
    room = left i;
    blocks = [];
  }

  -- and is the same where its blocks are alike
  pub file-alike : (file_of new u f).blocks ≡ (file_of old t f).blocks → file_of new u f ≡ file_of old t f
  file-alike blocks = λ i. record (said-alike i) { blocks = blocks i }

-- blocks that are alike
pub blocks-alike : (old new : Image) (blocks : List ℕ) → length new ≡ length old → All (λ lbn. lbn < length old) blocks
    → BlocksStay blocks old new
    → map (block_or_zeros new) blocks ≡ map (block_or_zeros old) blocks
blocks-alike old new blocks size within stay = map-alike (block_or_zeros new) (block_or_zeros old) blocks (λ i lbn at.
    let below = all-each (λ l. l < length old) blocks within lbn (contained blocks i lbn at) in
    same-or old new lbn zero_block (same-read old new lbn size below (stay i lbn at)))

-- an image in which a file's blocks are as they were
pub file-stays-in : (old new : Image) (t : Table) (f : ℕ) → IsWholeFile t f → length new ≡ length old → IsSoundFile t f (length old)
    → BlocksStay (file_blocks t f) old new
    → file_of new t f ≡ file_of old t f
file-stays-in old new t f whole size sound stay =
    file-alike old new t t f whole whole refl (λ n listed. refl)
    (file-blocks-are new t f whole ∙ blocks-alike old new (file_blocks t f) size sound.within stay ∙ sym (file-blocks-are old t f whole))

-- one of its blocks was written
pub file-written : (image : Image) (t : Table) (f i lbn : ℕ) (block : List ℕ) → IsWholeFile t f → lbn < length image
    → slice_get (file_blocks t f) i ≡ Some lbn
    → ((j : ℕ) → slice_get (file_blocks t f) j ≡ Some lbn → j ≡ i)
    → file_of (set image lbn block) t f ≡ record (file_of image t f) { blocks = set (file_of image t f).blocks i block }
unfolding file_of
file-written image t f i lbn block whole within at once =
    let new = set image lbn block in
    let is : map (block_or_zeros new) (file_blocks t f) ≡ set (map (block_or_zeros image) (file_blocks t f)) i block =
    map-but (block_or_zeros new) (block_or_zeros image) lbn block (file_blocks t f) i at once
    (get_or-set_same image lbn block zero_block within) (λ x other. get_or-set_other image lbn x block zero_block other) in
    let blocks = file-blocks-are new t f whole ∙ is ∙ ap (λ (bs : List (List ℕ)). set bs i block) (sym (file-blocks-are image t f whole)) in
    λ i. record (file_of image t f) { blocks = blocks i }
