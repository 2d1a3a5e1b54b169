-- Files that have the blocks that they had after a call that writes, by what it makes of the store and of what headers name.
use Rattle.std.proofs.Common.{◌≡◌, ◌≢◌, ◌<◌, ◌==◌, ◌||◌, ℕ, zero, suc, Bool, true, false, cond, IsTrue, List, [], ◌∷◌, ◌++◌, Option, Some}
use Rattle.std.proofs.Common.{None, option_map, length, slice_index, take, inl, inr, refl, sym, ap, subst, ◌∙◌, append_assoc, arith}
use Rattle.std.specs.Prelude.{Contains}
use Rattle.std.proofs.lemmas.Bool.{cases_eq, eq-eqb, eqb-false, ne_eqb}
use Rattle.std.proofs.lemmas.List.{append-nil}
use Rattle.std.proofs.lemmas.List.Folds.{list_any_none}
use Rattle.std.proofs.lemmas.Option.{same_Some}
use Rattle.f11_dev.specs.Disk.{Disk}
use Rattle.f11_dev.specs.Image.{Image}
use Rattle.f11_home.specs.Home.{HomeFields}
use Rattle.f11_map.specs.HeaderBlock.{segment_number}
use Rattle.f11_index.specs.Headers.{headers_of}
use Rattle.f11_index.specs.Table.{Table, table_of, IsFile, IsHeaderOf, first, next}
use Rattle.f11_index.proofs.ChainLemmas.{file_of-header}
use Rattle.f11_index.proofs.HeadersLemmas.{chained-apart, header-listed, listed-are, live-some}
use Rattle.f11_chain.specs.FileHeaders.{file_blocks}
use Rattle.f11_store.specs.Causes.{is_missing}
use Rattle.f11_store.specs.Changes.{GetsSlots, Grows, GrowsIndex, Truncates, is_in, with_change, with_file, with_replacement}
use Rattle.f11_store.specs.File.{File}
use Rattle.f11_store.specs.Store.{Store, free_slots, least_free}
use Rattle.f11_store.specs.declared.callers.Uic.{Uic}
use Rattle.f11_store.specs.declared.files.Change.{Change}
use Rattle.f11_store.specs.declared.files.Change.TheVariants as change
use Rattle.f11_store.proofs.StoreLemmas.{none_first}
use Rattle.f11_store.proofs.TakenSlotLemmas.{used-none}
use Rattle.f11_volume.specs.Sound.{HasSoundVolume}
use Rattle.f11_volume.specs.Volume.{volume_of, IsLinked, Volume}
use Rattle.f11_volume.proofs.FileLemmas.{image-files}
use Rattle.f11_volume.proofs.MemberLemmas.{all-from}
use Rattle.f11_image_store.specs.Allocation.{named_by, BeginsWith, GainsBlocksAs, GainsSlots, KeepsBlocks, LosesBlocks, LosesHeaders}
use Rattle.f11_image_store.specs.Allocation.{NamesMore}
use Rattle.f11_image_store.specs.StoreOf.{store_of}
use Rattle.f11_image_store.proofs.KeptBlocksLemmas.{file-keeps-blocks, held-stored, is-stored}
use Rattle.f11_files.specs.Changing.Fields.{altered_by}
use Rattle.f11_files.specs.Extending.Runs.{headers_for}
use Rattle.f11_files.specs.GrowingIndex.Headroom.{AllotsSlots, ReadiesHeaders}
use Rattle.f11_files.specs.Rows.{AlteredKeepsRows, CreatedKeepsRows, CutKeepsRows, DeletedKeepsRows, ExtendedKeepsRows, GrownKeepsRows}
use Rattle.f11_files.specs.Rows.{KeepsRows, LaidOutKeepsRows, ReplacedKeepsRows, StoredKeepsRows, no_number, this_number}
use Rattle.f11_files.specs.declared.change.fields.Alteration.{Alteration}
use Rattle.f11_files.specs.declared.change.fields.Alteration.TheVariants as alteration
use Rattle.f11_files.proofs.Finding.Windows.{is-there}

-- the headers of a file of the plain store, where there is one
abbrev pub held_of : Option File → Option (List ℕ)
held_of o = option_map (λ (f : File). f.held) o

-- file f has the headers in the store that it had
abbrev pub HeldStays : HomeFields → Image → Image → ℕ → Type 0
HeldStays home old new f = held_of ((store_of new home).file f) ≡ held_of ((store_of old home).file f)

-- a file that isn't the one that changes has the headers that it had
pub held-other : (s : Store) (k n : ℕ) (f : Option File) → n ≢ k → held_of ((with_file s k f).file n) ≡ held_of (s.file n)
held-other s k n f away = ap (λ (b : Bool). held_of (cond b f (s.file n))) (ne_eqb n k away)

-- and the one that changes has those that it is given
pub held-here : (s : Store) (k : ℕ) (f : File) → held_of ((with_file s k (Some f)).file k) ≡ Some f.held
held-here s k f = ap (λ (b : Bool). held_of (cond b (Some f) (s.file k))) (eq-eqb k k refl)

-- or it is gone
pub held-gone : (s : Store) (k : ℕ) → held_of ((with_file s k None).file k) ≡ None
held-gone s k = ap (λ (b : Bool). held_of (cond b None (s.file k))) (eq-eqb k k refl)

-- each has them where the change leaves them
pub held-changed : (s : Store) (k : ℕ) (change : File → File) → ((f : File) → (change f).held ≡ f.held)
    → (n : ℕ) → held_of ((with_change s k change).file n) ≡ held_of (s.file n)
held-changed s k change same n = elim (cases_eq n k) [
  | inl here ↦
      ap (λ (b : Bool). held_of (cond b (option_map change (s.file k)) (s.file n))) (eq-eqb n k here) ∙ go (s.file k)
      ∙ ap (λ (m : ℕ). held_of (s.file m)) (sym here)
  | inr away ↦ held-other s k n (option_map change (s.file k)) away
]
  where
    go : (o : Option File) → held_of (option_map change o) ≡ held_of o
    go None = refl
    go (Some f) = ap Some (same f)

-- where a file grows, or is cut, each other has the headers that it had
pub held-grown : (s t : Store) (k n : ℕ) (blocks : List (List ℕ)) → Grows s k n blocks t
    → (m : ℕ) → m ≢ k → held_of (t.file m) ≡ held_of (s.file m)
held-grown s t k n blocks grows m away = ap (λ (x : Store). held_of (x.file m)) grows.store_is ∙ held-other s k m _ away

pub held-cut : (s t : Store) (k to : ℕ) → Truncates s k to t → (m : ℕ) → m ≢ k → held_of (t.file m) ≡ held_of (s.file m)
held-cut s t k to cut m away = ap (λ (x : Store). held_of (x.file m)) cut.store_is ∙ held-other s k m _ away

-- a slot that isn't the first of the free ones is another than the least
pub not-least : (slots : List ℕ) (n : ℕ) → (length slots == 0) ≡ false → is_in (take 1 slots) n ≡ false → n ≢ slice_index slots 0
not-least [] n some out same = absurd cc
not-least (m ∷ slots) n some out same =
    let is : (m == n) ≡ true = eq-eqb m n (sym same) in
    let no : true ≡ false = sym (ap (λ (b : Bool). b || false) is) ∙ out in
    absurd cc

-- a number that differs from each of a list isn't in it
pub none-in : (ns : List ℕ) (n : ℕ) → ((m : ℕ) → Contains ns m → m ≢ n) → is_in ns n ≡ false
none-in ns n away = list_any_none (λ m. m == n) ns (all-from (λ m. (m == n) ≡ false) ns (λ m has. ne_eqb m n (away m has)))

-- what is replaced leaves a file's headers
replacement-held : (change : Change) (f : File) → (with_replacement change f).held ≡ f.held
replacement-held (change.Attr attr) f = refl
replacement-held (change.Ident ident) f = refl
replacement-held (change.Protect word) f = refl

pub alteration-held : (a : Alteration) (f : File) → (altered_by a f).held ≡ f.held
alteration-held (alteration.Replace change) f = replacement-held change f
alteration-held alteration.Mark f = refl
alteration-held alteration.MarkContiguous f = refl

-- a header of a file of a sound volume has a byte as its segment number
pub small-segment : (image : Image) (home : HomeFields) → HasSoundVolume image home → (f n : ℕ) → IsHeaderOf (table_of image home) f n
    → segment_number ((table_of image home).header n) < 256
unfolding volume_of
small-segment image home sound f n (first file) = let zero = file.first in omega (arith, zero)
small-segment image home sound f n (next {n = m} of goes) =
    let some = live-some goes.to in
    let number = goes.number in
    let segment = goes.segment in
    let linked : IsLinked (table_of image home) m =
    record { in_file = record { file = f; of = of }; link = λ none. omega (arith, none, number, some) } in
    let small = (sound.sound.links m linked).not_last in
    omega (arith, small, segment)

module _ (home : HomeFields) (old new : Image) (sound : HasSoundVolume old home) (sound' : HasSoundVolume new home) where
  abbrev t : Table
  t = table_of old home

  abbrev u : Table
  u = table_of new home

  there-still : (f : ℕ) → IsFile t f → HeldStays home old new f → IsFile u f
  there-still f file held = is-stored new home f (headers_of t f) (held ∙ held-stored old home f sound file)

  pub header-still : (f n : ℕ) → IsFile t f → HeldStays home old new f → IsHeaderOf t f n → IsHeaderOf u f n
  header-still f n file held of =
      let now : IsFile u f = there-still f file held in
      let same : headers_of u f ≡ headers_of t f =
      same_Some (headers_of u f) (headers_of t f) (sym (held-stored new home f sound' now) ∙ held ∙ held-stored old home f sound file) in
      listed-are u f n ((image-files new home sound').each f now).whole
      (subst (λ (l : List ℕ). Contains l n) (sym same) (header-listed t f n of (small-segment old home sound f n of)))

  row-still : (f : ℕ) → IsFile t f → HeldStays home old new f → ((n : ℕ) → IsHeaderOf t f n → named_by u n ≡ named_by t n)
      → BeginsWith (file_blocks u f) (file_blocks t f)
  row-still f file held names = ([], file-keeps-blocks home old new f sound sound' file held names ∙ sym (append-nil (file_blocks t f)))

  -- each file has the headers that it had, and each header names what it named
  rows-same : ((f : ℕ) → IsFile t f → HeldStays home old new f) → KeepsBlocks (volume_of old home) (volume_of new home)
      → KeepsRows no_number home old new
  unfolding volume_of
  rows-same held keeps = record {
    there = λ f _ file. there-still f file (held f file);
    rows = λ f _ file. row-still f file (held f file) (λ n _. keeps.names n);
  }

  -- file f has blocks more behind its own
  rows-more : (f : ℕ) (ownership : Uic × ℕ) (lbns : List ℕ) → ((g : ℕ) → g ≢ f → HeldStays home old new g) → NamesMore f ownership lbns t u
      → KeepsRows no_number home old new
  rows-more f ownership lbns held names = record {
    there = λ g _ file. elim (cases_eq g f) [
      | inl same ↦ subst (IsFile u) (sym same) (file_of-header (names.headers f (first (subst (IsFile t) same file))))
      | inr away ↦ there-still g file (held g away)
    ];
    rows = λ g _ file. elim (cases_eq g f) [
      | inl same ↦ subst (λ (k : ℕ). BeginsWith (file_blocks u k) (file_blocks t k)) (sym same) (lbns, names.blocks)
      | inr away ↦ row-still g file (held g away) (λ n of.
          names.others n (λ its. away (chained-apart (image-files new home sound').chained (header-still g n file (held g away) of) its)))
    ];
  }

  rows-gain : (f n : ℕ) (ownership : Uic × ℕ) → ((g : ℕ) → g ≢ f → HeldStays home old new g)
      → GainsBlocksAs f ownership n (volume_of old home) (volume_of new home) → KeepsRows no_number home old new
  unfolding volume_of
  rows-gain f n ownership held gains = rows-more f ownership _ held gains.names

  -- headers of file f name less, or are gone
  rows-but : (f : ℕ) → ((g : ℕ) → g ≢ f → HeldStays home old new g) → ((n : ℕ) → ¬ IsHeaderOf t f n → named_by u n ≡ named_by t n)
      → KeepsRows (this_number f) home old new
  rows-but f held names = record {
    there = λ g other file. there-still g file (held g (eqb-false g f other));
    rows = λ g other file.
        let away : g ≢ f = eqb-false g f other in
        row-still g file (held g away) (λ n of. names n (λ its. away (chained-apart (image-files old home sound).chained of its)));
  }

  rows-cut : (f to : ℕ) → ((g : ℕ) → g ≢ f → HeldStays home old new g) → LosesBlocks f to (volume_of old home) (volume_of new home)
      → KeepsRows (this_number f) home old new
  unfolding volume_of
  rows-cut f to held loses = rows-but f held loses.others

  rows-gone : (f : ℕ) → IsFile t f → ((g : ℕ) → g ≢ f → HeldStays home old new g)
      → LosesHeaders (headers_of t f) (volume_of old home) (volume_of new home) → KeepsRows (this_number f) home old new
  unfolding volume_of
  rows-gone f file held loses = rows-but f held (λ n none.
      loses.names n
      ∙ ap (λ (b : Bool). cond b [] (named_by t n))
      (none-in (headers_of t f) n (λ m has same.
      none (subst (IsHeaderOf t f) same (listed-are t f m ((image-files old home sound).each f file).whole has)))))

pub stored-rows : StoredKeepsRows
stored-rows home f vbn block old new sound sound' honest does =
    rows-same home old.image new.image sound sound'
    (λ g _. ap (λ (s : Store). held_of (s.file g)) (does.makes honest) ∙ held-changed (store_of old.image home) f.number _ (λ _. refl) g)
    (does.allots honest)

pub altered-rows : AlteredKeepsRows
altered-rows home f change old new sound sound' honest leaves does =
    rows-same home old.image new.image sound sound'
    (λ g _. ap (λ (s : Store). held_of (s.file g)) (does.makes honest) ∙ held-changed (store_of old.image home) f.number change leaves g)
    (does.allots honest)

pub replaced-rows : ReplacedKeepsRows
replaced-rows home f change old new sound sound' honest does =
    altered-rows home f (with_replacement change) old new sound sound' honest (replacement-held change) does

-- rows that are kept by one call, and by another after it, are kept by both
kept-then : (home : HomeFields) (a b c : Image) → KeepsRows no_number home a b → KeepsRows no_number home b c → KeepsRows no_number home a c
kept-then home a b c one two = record {
  there = λ f out file. two.there f out (one.there f out file);
  rows = λ f out file.
      let first = one.rows f out file in
      let more = two.rows f out (one.there f out file) in (
        first.0 ++ more.0,
        more.1 ∙ ap (λ (l : List ℕ). l ++ more.0) first.1 ∙ append_assoc (file_blocks (table_of a home) f) first.0
            more.0,
      );
}

-- where the index file has n slots more
index-rows :
    (home : HomeFields) (n : ℕ) (old new : Image) → HasSoundVolume old home → HasSoundVolume new home
    → GrowsIndex (store_of old home) n (store_of new home) →
    GainsSlots n (volume_of old home) (volume_of new home) → KeepsRows no_number home old new
index-rows home n old new sound sound' grew gains =
    rows-gain home old new sound sound' 1 n _
    (λ g away. ap (λ (s : Store). held_of (s.file g)) grew.store_is ∙ held-grown (store_of old home) grew.grown 1 n [] grew.grows g away)
    gains.blocks

-- which may be none
slots-rows :
    (home : HomeFields) (n : ℕ) (old new : Image) → HasSoundVolume old home → HasSoundVolume new home
    → GetsSlots n (store_of old home) (store_of new home) →
    AllotsSlots n (volume_of old home) (volume_of new home) → KeepsRows no_number home old new
slots-rows home zero old new sound sound' same stays =
    rows-same home old new sound sound' (λ g _. ap (λ (s : Store). held_of (s.file g)) same)
    (subst (λ (v : Volume). KeepsBlocks (volume_of old home) v) (sym stays) (record { size = refl; names = λ _. refl; free = refl }))
slots-rows home (suc n) old new sound sound' grew gains = index-rows home (suc n) old new sound sound' grew gains

-- so where headers are readied
readied-rows :
    (home : HomeFields) (headers n : ℕ) (old ready : Disk) → HasSoundVolume old.image home → IsTrue old.honest →
    ReadiesHeaders home headers n old ready → KeepsRows no_number home old.image ready.image
readied-rows home headers n old ready sound honest readies =
    slots-rows home _ old.image ready.image sound (readies.sound honest) (readies.does.makes honest) (readies.does.allots honest)

pub created-rows : CreatedKeepsRows
unfolding store_of
created-rows home owner protection ident attr f old new sound sound' honest creates =
    let s : Store = store_of creates.ready.image home in
    let honest' : IsTrue creates.ready.honest = creates.readies.does.writes.went.honest ∙ honest in
    let does = creates.enters.does in
    kept-then home old.image creates.ready.image new.image (readied-rows home 1 0 old creates.ready sound honest creates.readies)
    (rows-same home creates.ready.image new.image (creates.readies.sound honest) sound'
    (λ g file. ap (λ (x : Store). held_of (x.file g)) (does.makes honest')
    ∙ held-other s (least_free s) g _
    (not-least (free_slots s) g (none_first _ _ _ (does.no_cause honest')) (used-none s 1 g file.live.in_use)))
    (does.allots honest').allots)

pub extended-rows : ExtendedKeepsRows
extended-rows home f n old new sound sound' honest extends =
    let read : extends.read.image ≡ old.image = extends.reads.looked.image in
    let honest' : IsTrue extends.read.honest = extends.reads.looked.honest ∙ honest in
    let honest'' : IsTrue extends.ready.honest = extends.readies.does.writes.went.honest ∙ honest' in
    let does = extends.extends in
    kept-then home old.image extends.ready.image new.image
    (subst (λ (i : Image). KeepsRows no_number home i extends.ready.image) read
    (readied-rows home (headers_for home f n old) n extends.read extends.ready
    (subst (λ (i : Image). HasSoundVolume i home) (sym read) sound) honest' extends.readies))
    (rows-gain home extends.ready.image new.image (extends.readies.sound honest') sound' f.number n _
    (held-grown (store_of extends.ready.image home) (store_of new.image home) f.number n _ (does.makes honest''))
    (does.allots honest'').allots)

pub laid-rows : LaidOutKeepsRows
unfolding volume_of
laid-rows home f n old new sound sound' honest does =
    let made = does.makes honest in
    rows-more home old.image new.image sound sound' f.number _ _
    (λ g away. ap (λ (s : Store). held_of (s.file g)) made.store_is ∙ held-other (store_of old.image home) f.number g _ away)
    (does.allots honest).allots.names

pub grown-rows : GrownKeepsRows
grown-rows home n old new sound sound' honest does =
    index-rows home n old.image new.image sound sound' (does.makes honest) (does.allots honest)

pub cut-rows : CutKeepsRows
cut-rows home f to old new sound sound' honest does =
    rows-cut home old.image new.image sound sound' f.number to
    (held-cut (store_of old.image home) (store_of new.image home) f.number to (does.makes honest)) (does.allots honest)

pub deleted-rows : DeletedKeepsRows
deleted-rows home f old new sound sound' honest does =
    let s : Store = store_of old.image home in
    rows-gone home old.image new.image sound sound' f.number
    (is-there old.image home f (none_first (is_missing s f) _ _ (does.no_cause honest))).0
    (λ g away. ap (λ (x : Store). held_of (x.file g)) (does.makes honest) ∙ held-other s f.number g None away)
    (does.allots honest)
