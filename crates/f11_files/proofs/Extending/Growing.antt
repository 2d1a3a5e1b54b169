-- What carries `Growing` and `Grew` from call to call.
use Rattle.std.proofs.Common.{◌≡◌, ◌+◌, ◌*◌, ◌<◌, ◌≤◌, ℕ, true, IsTrue, List, length, Option, Some, inl, refl, sym, ap, subst, ◌∙◌, arith}
use Rattle.std.proofs.Common.{unwrap_or}
use Rattle.f11_dev.specs.Disk.{Disk}
use Rattle.f11_dev.specs.Image.{Image}
use Rattle.f11_dev.specs.Went.{Went}
use Rattle.f11_dev.proofs.WentLemmas.{went_last, went_more, went_weaker}
use Rattle.f11_home.specs.Home.{HomeFields}
use Rattle.f11_map.specs.HeaderBlock.{segment_number}
use Rattle.f11_index.specs.Table.{Table, table_of}
use Rattle.f11_index.proofs.ChainLemmas.{file_of-header}
use Rattle.f11_store.specs.File.{File, no_file, need}
use Rattle.f11_store.specs.Refusal.{refusal_number}
use Rattle.f11_store.specs.Store.{Store}
use Rattle.f11_store.specs.declared.refusals.Refusal.{Refusal}
use Rattle.f11_store.specs.declared.refusals.Refusal.TheVariants.{DeviceFault}
use Rattle.f11_store.proofs.Frees.{same_limits}
use Rattle.f11_store.proofs.GrowsLemmas.{grows-within}
use Rattle.f11_volume.specs.Sound.{HasSoundVolume}
use Rattle.f11_writes.specs.Kept.{file_in}
use Rattle.f11_files.specs.Answers.{WritesAtMost, Breaks}
use Rattle.f11_store.specs.Pieces.{with_more_free, file_numbered, GrowsAs, TakesSome}
use Rattle.f11_image_store.specs.FileLaws.{room_in}
use Rattle.f11_files.specs.Extending.Growing.{WhileTaking, IsGrowing, Grew, GrowingInto}
use Rattle.f11_image_store.specs.StoreOf.{as_seen, store_of}
use Rattle.f11_files.specs.Structure.{home_of, store_on, IsStructureFor, StaysFor}
use Rattle.f11_files.specs.Extending.Tail.{HoldsLast}
use Rattle.f11_files.specs.declared.structure.Structure.{Structure}
use Rattle.f11_files.specs.declared.extend.tail.Tail.{Tail}
use Rattle.f11_files.proofs.Finding.First.{table-of}
use Rattle.f11_files.proofs.Finding.Named.{file-stored, seen-same}
use Rattle.f11_files.proofs.Extending.Room.{room-is, count-is}
use Rattle.f11_image_store.proofs.StoreLemmas.{file-at}

-- nothing was taken
pub takes-none : (blocks headers : ℕ) (s : Store) → TakesSome blocks headers s s
takes-none blocks headers s = record {
  files = λ n. refl;
  free = omega arith;
  unused = λ n unused. unused;
  slots_free = omega arith;
  last = λ n. inl refl;
  no_header = λ _ n. refl;
  slots = refl;
  limits = same_limits refl refl refl;
}

-- or no more than so much
pub takes-within : (a b g h : ℕ) (s t : Store) → a ≤ b → g ≤ h → TakesSome a g s t → TakesSome b h s t
takes-within a b g h s t few fewer takes = record {
  files = takes.files;
  free = omega (arith, takes.free, few);
  unused = takes.unused;
  slots_free = omega (arith, takes.slots_free, fewer);
  last = takes.last;
  no_header = λ none. takes.no_header (omega (arith, none, fewer));
  slots = takes.slots;
  limits = takes.limits;
}

-- the room of a file is that of its last header, in hand
module _ (s : Structure) (tail : Tail) (disk : Disk) (for : IsStructureFor s disk) (last : HoldsLast s tail disk)
    (honest : IsTrue disk.honest) where
  abbrev k : ℕ
  k = tail.file.number

  abbrev t : Table
  t = table_of disk.image (home_of s)

  abbrev there : File
  there = file_in (home_of s) k disk.image

  file-is : (store_on s disk).file k ≡ Some (as_seen k there)
  file-is =
      file-stored disk.image (home_of s) k
      ∙ file-at disk.image t k (Some (as_seen k there)) (λ _. refl) (λ none. absurd (none (file_of-header (last.is_last honest).of)))

  pub last-here : tail.block ≡ t.header tail.number
  last-here = last.header.block_is honest ∙ ap (λ (u : Table). u.header tail.number) (table-of s disk for honest)

  pub room-here : (file_numbered (store_on s disk) k).room ≡ room_in tail.block
  room-here =
      let few : segment_number (t.header tail.number) < 256 = let same = ap segment_number last-here in omega (arith, same, last.few) in
      ap (λ (o : Option File). (unwrap_or o no_file).room) file-is ∙ seen-same (λ (g : File). g.room) (λ g. refl) k there
      ∙ room-is disk.image t k tail.number (last.is_last honest) few ∙ ap room_in (sym last-here)

  pub headers-here : length (file_numbered (store_on s disk) k).held ≡ segment_number tail.block + 1
  headers-here =
      let few : segment_number (t.header tail.number) < 256 = let same = ap segment_number last-here in omega (arith, same, last.few) in
      ap (λ (o : Option File). length (unwrap_or o no_file).held) file-is ∙ seen-same (λ (g : File). length g.held) (λ g. refl) k there
      ∙ count-is disk.image t k tail.number (last.is_last honest) few
      ∙ ap (λ (b : List ℕ). segment_number b + 1) (sym last-here)

-- images that stand after the store was as it is
pub into-same : (home : HomeFields) (s t : Store) (k n p : ℕ) (a b : Disk) → b.honest ≡ a.honest → (IsTrue a.honest → t ≡ s)
    → (image : Image) → GrowingInto home t (with_more_free t n) k n p b image
    → GrowingInto home s (with_more_free s n) k n p a image
into-same home s t k n p a b same store image is honest =
    subst (λ (x : Store). IsGrowing home 0 (need (file_numbered x k).room p) (GrowsAs (with_more_free x n) k n p) x image) (store honest)
    (is (same ∙ honest))

-- a file that grew after more was done
module _ {P Q : Image → Type 0} {home : HomeFields} {s t : Store} {k n p m most : ℕ} {a b c : Disk}
    (weaker : (image : Image) → Q image → P image) (store : IsTrue a.honest → t ≡ s) (one : WritesAtMost P m a b 0)
    (grew : Grew Q home t k n p most b c) where
  moved : IsTrue a.honest → (e : GrowsAs s k n p (store_of c.image home)) × (grew.transfers ≤ most + 3 * e.grows.added)
  moved honest =
      let there = one.went.honest ∙ honest in
      subst (λ (x : Store). (e : GrowsAs x k n p (store_of c.image home)) × (grew.transfers ≤ most + 3 * e.grows.added)) (store honest)
      (grew.grows there, grew.few there)

  pub grew-behind : Grew P home s k n p (m + most) a c
  grew-behind = record {
    grows = λ honest. (moved honest).0;
    transfers = one.transfers + grew.transfers;
    went = went_more P one.went (went_weaker Q P weaker grew.went);
    few = λ honest. let here = (moved honest).1 in let first = one.few honest in omega (arith, here, first);
  }

-- in no more transfers
pub grew-within : {P : Image → Type 0} {home : HomeFields} {s : Store} {k n p most more : ℕ} {a b : Disk} → (IsTrue a.honest → most ≤ more)
    → Grew P home s k n p most a b → Grew P home s k n p more a b
grew-within fewer grew = record {
  grows = grew.grows;
  transfers = grew.transfers;
  went = grew.went;
  few = λ honest. let here = grew.few honest in let few = fewer honest in omega (arith, here, few);
}

-- in more pointers at most
pub grew-in : {P : Image → Type 0} {home : HomeFields} {s : Store} {k n p q most : ℕ} {a b : Disk} → p ≤ q → Grew P home s k n p most a b
    → Grew P home s k n q most a b
grew-in {home = home} {s = s} {k = k} {n = n} {p = p} {q = q} {b = b} few grew = record {
  grows = λ honest. (grows-within s (store_of b.image home) k n p q few (grew.grows honest)).0;
  transfers = grew.transfers;
  went = grew.went;
  few = λ honest.
      let same = (grows-within s (store_of b.image home) k n p q few (grew.grows honest)).1 in
      let here = grew.few honest in
      omega (arith, same, here);
}

-- what was only taken so far: the volume is sound at the end
pub sound-growing : {P : Image → Type 0} {home : HomeFields} {old new : Disk} {most faults : ℕ}
    → ((image : Image) → P image → IsTrue old.honest → HasSoundVolume image home)
    → (IsTrue old.honest → HasSoundVolume old.image home) → WritesAtMost P most old new faults → IsTrue new.honest
    → HasSoundVolume new.image home
sound-growing {P = P} {home = home} {old = old} weaker sound writes honest =
    let Q : Image → Type 0 = λ image. IsTrue old.honest → HasSoundVolume image home in
    went_last Q (went_weaker P Q weaker writes.went) sound (sym writes.went.honest ∙ honest)

-- where it broke off nothing more is known of what is kept
pub breaks-stays : {P : Image → Type 0} {s t : Structure} {old new : Disk} {most : ℕ} {r : Refusal}
    → ((image : Image) → P image → IsTrue old.honest → HasSoundVolume image (home_of s)) → home_of t ≡ home_of s
    → IsStructureFor s old → Breaks P most r old new → StaysFor true s t new
breaks-stays {s = s} {t = t} {new = new} weaker same for breaks = record {
  home = same;
  lies = λ not. absurd cc;
  sound = subst (λ (h : HomeFields). IsTrue new.honest → HasSoundVolume new.image h) (sym same)
      (sound-growing weaker for.sound breaks.writes);
  keeps = λ not. absurd cc;
}

pub taking-sound : (home : HomeFields) (blocks headers : ℕ) (from : Store) (old : Disk) (image : Image)
    → WhileTaking home blocks headers from old image → IsTrue old.honest → HasSoundVolume image home
taking-sound home blocks headers from old image is honest = (is honest).sound

pub taking-stays : {blocks headers most : ℕ} {from : Store} {r : Refusal} {s t : Structure} {old new : Disk} → home_of t ≡ home_of s
    → IsStructureFor s old → Breaks (WhileTaking (home_of s) blocks headers from old) most r old new
    → StaysFor true s t new
taking-stays {blocks = blocks} {headers = headers} {from = from} {s = s} {old = old} same for breaks =
    breaks-stays (taking-sound (home_of s) blocks headers from old) same for breaks

-- so many transfers at most
pub went-writes : {P : Image → Type 0} {old new : Disk} {most faults : ℕ} → Went P old new most faults → WritesAtMost P most old new faults
went-writes {most = most} went = record { transfers = most; went = went; few = λ _. omega arith }

-- of another kind of images
pub breaks-weaker : {P Q : Image → Type 0} {most : ℕ} {old new : Disk} {r : Refusal} → ((image : Image) → Q image → P image)
    → Breaks Q most r old new → Breaks P most r old new
breaks-weaker {P = P} {Q = Q} weaker breaks = record {
  fatal = breaks.fatal;
  undamaged = breaks.undamaged;
  writes = record { transfers = breaks.writes.transfers; went = went_weaker Q P weaker breaks.writes.went; few = breaks.writes.few };
}

-- a transfer that failed
pub breaks-fault : {P : Image → Type 0} {most : ℕ} {old new : Disk} → WritesAtMost P most old new 1 → Breaks P most DeviceFault old new
breaks-fault writes =
    record { fatal = refl; undamaged = λ _ is. let no : 19 ≡ 20 = ap refusal_number is in omega (arith, no); writes = writes }
