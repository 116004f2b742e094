-- What a view becomes, what a step needs of it, and what a step tells it.
use Rattle.std.specs.Prelude.{◌≡◌, ℕ, ◌-◌, ◌==◌, true, false, MatchBool, ◌⊎◌, [], ◌∷◌, ◌++◌, bit_or, slice_index, Contains}
use Rattle.atomic_table.specs.Table.{Me, Step}
use Rattle.link_closure.specs.declared.workload.Mark.{Mark}
use Rattle.link_closure.specs.declared.workload.Item.{Item}
use Rattle.link_closure.specs.declared.workload.Workload.{Workload}
use Rattle.link_claim.specs.declared.view.View.{View}
use Rattle.link_closure.specs.Workload.{HasItem, Requests, Marks, IsRoot, bits_for, marked, IsWithin}
use Rattle.link_claim.specs.Workload.{begin_base, flag_base}

-- the first seat knows and lists nothing
abbrev pub first_view : Workload → View
first_view w = record { live = true; work = w; known = []; known_items = []; claims = []; begins = []; marks = []; missed = []; writes = [] }

-- no files, items and symbols
abbrev pub no_work : Workload
no_work = record { files = 0; roots = []; root_marks = []; opening = []; items = [] }

-- a seat that was joined to another knows and lists nothing, and names no work
abbrev pub spent_view : View
spent_view = record (first_view no_work) { live = false }

-- ---- what a view becomes

-- the file is known
abbrev pub with_file : ℕ → View → View
with_file f v = record v { known = f ∷ v.known }

-- the file is known, and this seat claimed it
abbrev pub with_claim : ℕ → View → View
with_claim f v = record v { known = f ∷ v.known; claims = f ∷ v.claims }

-- the item is known
abbrev pub with_item : ℕ → View → View
with_item i v = record v { known_items = i ∷ v.known_items }

-- the item is known, and this seat began it
abbrev pub with_begin : ℕ → View → View
with_begin i v = record v { known_items = i ∷ v.known_items; begins = i ∷ v.begins }

-- the mark is listed
abbrev pub with_mark : Mark → View → View
with_mark m v = record v { marks = m ∷ v.marks }

-- a bit of the mark was seen to be missing
abbrev pub with_missed : Mark → View → View
with_missed m v = record v { missed = m ∷ v.missed }

-- the mark is listed, and this seat wrote it where it found the word n
abbrev pub with_write : Mark → ℕ → View → View
with_write m n v = record v { marks = m ∷ v.marks; writes = record { mark = m; found = n } ∷ v.writes }

-- a mark was made, and the last step found the word n: all bits were there, and nothing was written; or a bit was seen
-- to be missing, and then they were written
abbrev pub IsMarked : Mark → ℕ → View → View → Type 0
IsMarked m n v u = (IsWithin m.bits n × (u ≡ with_mark m v)) ⊎ (u ≡ with_write m n (with_missed m v))

-- a new seat knows the same, and has done nothing
abbrev pub fresh : View → View
fresh v = record v { claims = []; begins = []; marks = []; missed = []; writes = [] }

-- all lists of both
abbrev pub joined : View → View → View
joined v u = record v {
  known = v.known ++ u.known;
  known_items = v.known_items ++ u.known_items;
  claims = v.claims ++ u.claims;
  begins = v.begins ++ u.begins;
  marks = v.marks ++ u.marks;
  missed = v.missed ++ u.missed;
  writes = v.writes ++ u.writes;
}

-- ---- what a step needs

-- a root, or a request of a known item
abbrev pub MayRequest : View → ℕ → Type 0
MayRequest v f = IsRoot v.work f ⊎ ((i : ℕ) × Contains v.known_items i × Requests v.work i f)

-- an item of a known file
abbrev pub MayBegin : View → ℕ → Type 0
MayBegin v i = (it : Item) × HasItem v.work i it × Contains v.known it.file

-- a root mark, or a mark of a known item
abbrev pub MayMark : View → Mark → Type 0
MayMark v m = Contains v.work.root_marks m ⊎ ((i : ℕ) × Contains v.known_items i × Marks v.work i m)

-- ---- what a step tells: of the view m.0 before it, the number n that it found, and the view m'.0 after it

abbrev pub Seated : Type 0
Seated = Me (Unit {0}) View

-- a load of the spare word: the seat's view names this work
abbrev pub told_work : Workload → Step (Unit {0}) → Seated → ℕ → Seated → Type 0
told_work w st m n m' = (m' ≡ m) × (m.0.work ≡ w)

-- a load of a claim word: 0 tells nothing
abbrev pub saw_claim : Step (Unit {0}) → Seated → ℕ → Seated → Type 0
saw_claim st m n m' = MatchBool (n == 0) (m' ≡ m) (m' ≡ (with_file (st.word - 1) m.0, m.1))

-- a load of any file's claim word: at 0 the file is not known
abbrev pub checked : Step (Unit {0}) → Seated → ℕ → Seated → Type 0
checked st m n m' = MatchBool (n == 0) ((m' ≡ m) × ¬ Contains m.0.known (st.word - 1)) (m' ≡ (with_file (st.word - 1) m.0, m.1))

-- a swap of a claim word: at 0 the file is claimed
abbrev pub took_claim : Step (Unit {0}) → Seated → ℕ → Seated → Type 0
took_claim st m n m' = MatchBool (n == 0) (m' ≡ (with_claim (st.word - 1) m.0, m.1)) (m' ≡ (with_file (st.word - 1) m.0, m.1))

-- a swap of a begin word: at 0 the item is begun
abbrev pub took_begin : Step (Unit {0}) → Seated → ℕ → Seated → Type 0
took_begin st m n m' =
    let i = st.word - begin_base m.0.work in
    MatchBool (n == 0) (m' ≡ (with_begin i m.0, m.1)) (m' ≡ (with_item i m.0, m.1))

-- the word n of the symbol x has the opening bits and those that the view lists, and no bit but the opening ones and
-- those of the work's marks
pub record Shows (v : View) (x n : ℕ) : Type 0 where
  pub opening : IsWithin (slice_index v.work.opening x) n
  pub listed : IsWithin (bits_for x v.marks) n
  pub most : IsWithin n (marked v.work (λ f. true) x)

abbrev pub mark_at : Step (Unit {0}) → View → ℕ → Mark
mark_at st v bits = record { symbol = st.word - flag_base v.work; bits = bits }

-- a load of a flag word
abbrev pub read_flags : Step (Unit {0}) → Seated → ℕ → Seated → Type 0
read_flags st m n m' = (m' ≡ m) × Shows m.0 (st.word - flag_base m.0.work) n

-- a load of a flag word that asks for a mark: it is listed where its bits are set, and missed where one is not
abbrev pub saw_mark : ℕ → Step (Unit {0}) → Seated → ℕ → Seated → Type 0
saw_mark bits st m n m' =
    MatchBool (bit_or n bits == n) (m' ≡ (with_mark (mark_at st m.0 bits) m.0, m.1)) (m' ≡ (with_missed (mark_at st m.0 bits) m.0, m.1))
    × Shows m.0 (st.word - flag_base m.0.work) n

-- the bits are written: joined to a flag word
abbrev pub wrote_mark : Step (Unit {0}) → Seated → ℕ → Seated → Type 0
wrote_mark st m n m' = (m' ≡ (with_write (mark_at st m.0 st.first) n m.0, m.1)) × Shows m.0 (st.word - flag_base m.0.work) n
