-- Sections laid down: what each kind of grid and bitmap leaves, and the front of a message out of its four parts.
use Rattle.std.specs.Prelude.{None, Option, Some}
use mathlib.Core.Path.{◌≡◌, refl, sym, ap, ap₂, subst, ◌∙◌}
use mathlib.Core.Bool.{Bool, true, false, not, cond, ◌&&◌}
use mathlib.Core.List.{List, [], ◌++◌, append_assoc}
use Prim.Native.Nat.{ℕ, ◌+◌, ◌-◌, ◌*◌, ◌≤◌}
use native.Mathlib.Nat.{add-zero}
use native.Mathlib.Omega.{arith}
use borrow.Author.Tests.{le-leb}
use lib.Dec.{leb}
use lib.ListN.{length, length-append}
use Rattle.rules.specs.Bounds.{bms_head, bds_head}
use Rattle.bits.specs.Bits.{bits_in, octets_for, runs, placed}
use Rattle.bits.specs.Tables.{tab}
use Rattle.bits.proofs.Trip.{length_runs}
use Rattle.bits.proofs.Placing.{placed-none, length-placed, number-placed}
use Rattle.rules.specs.declared.{Bitmap.Bitmap, Bitmap.TheVariants.Without, Bitmap.TheVariants.Carried, Grid.Grid}
use Rattle.rules.specs.declared.{Bitmap.TheVariants.Stored, Form.Form, Packing.Packing, Scale.Scale}
use Rattle.rules.specs.Numbers.{octets, laid, even_from}
use Rattle.rules.specs.Bitmap.{bms_of, mark_of}
use Rattle.rules.specs.Values.{bds_of}
use Rattle.rules.specs.Writing.{gds_for}
use Rattle.rules.specs.Writing.{indicator_fields}
use Rattle.rules.specs.Bitmap.{bms_fields}
use Rattle.rules.specs.Values.{scale_fields}
use Rattle.framing.specs.Layout.{gds_room, the_bms_room, the_bds_room, front_room, front_by, head_by}
use Rattle.framing.specs.Framing.{the_given_bad}
use Rattle.puts.specs.Put.{the_put_number}
use Rattle.gds_put.specs.Section.{the_found_holds, gds_fits, the_gds_put}
use Rattle.gds_put.proofs.Laws.{grid-held}
use Rattle.laws.proofs.Fields.{laid-length}
use Rattle.marks.specs.Marks.{marks_put}
use Rattle.marks.proofs.Bitmaps.{put-fits}
use Rattle.puts.proofs.Laying.{laid-rest, number_put, two-placed, three-placed}
use Rattle.framing.proofs.Lengths.{gds-room, bms-room}

-- the grid that is given, put where there is room for it
found-held : (f : Option Grid) → the_given_bad f ≡ false → the_found_holds f ≡ true
unfolding the_found_holds
found-held None b = refl
found-held (Some g) b = ap not (grid-held g b)

pub grid-put : (f : Option Grid) (d o : List ℕ) (at : ℕ) → the_given_bad f ≡ false → at + gds_room f ≤ length d → o ≡ the_gds_put d at f
    → o ≡ placed d at (gds_for f)
unfolding the_gds_put gds_fits
grid-put f d o at b h e =
    let l : leb (at + length (gds_for f)) (length d) ≡ true = le-leb _ _ (subst (λ (n : ℕ). at + n ≤ length d) (sym (gds-room f)) h) in
    e ∙ ap₂ (λ (x y : Bool). cond (x && y) (placed d at (gds_for f)) d) (found-held f b) l

-- the three kinds of bitmap
pub map-none : (m : Bitmap) (present : ℕ → ℕ) (n : ℕ) (d : List ℕ) (at : ℕ) → m ≡ Without
    → (at ≡ at + the_bms_room m n) × (d ≡ placed d at (bms_of m present n))
unfolding the_bms_room bms_of
map-none m present n d at e = rw e (sym (add-zero at), sym (placed-none d at))

module _ (m : Bitmap) (e : m ≡ Carried) where
  pub carried-fits : (at n l : ℕ) → at + the_bms_room m n ≤ l → at + even_from (bms_head + octets_for n) ≤ l
  unfolding the_bms_room
  carried-fits at n l h = rw e at h

  pub map-carried : (present : ℕ → ℕ) (n : ℕ) (d o : List ℕ) (at len : ℕ) → len ≡ even_from (bms_head + octets_for n)
      → o ≡ placed d at (bms_of Carried present n)
      → (at + len ≡ at + the_bms_room m n) × (o ≡ placed d at (bms_of m present n))
  unfolding the_bms_room
  map-carried present n d o at len l h = rw e (ap (λ (x : ℕ). at + x) l, h)

module _ (m : Bitmap) (k : ℕ) (e : m ≡ Stored k) where
  pub stored-fits : (at n l : ℕ) → at + the_bms_room m n ≤ l → at + bms_head ≤ l
  unfolding the_bms_room
  stored-fits at n l h = rw e at h

  pub map-stored : (present : ℕ → ℕ) (n : ℕ) (d o : List ℕ) (at : ℕ) → o ≡ placed d at (laid (bms_fields 6 0 k) [])
      → (at + bms_head ≡ at + the_bms_room m n) × (o ≡ placed d at (bms_of m present n))
  unfolding the_bms_room bms_of
  map-stored present n d o at h = rw e (refl, h)

-- a BMS whose bits follow
pub carried-placed : (d marks : List ℕ) (at n len unused : ℕ) → len ≡ even_from (bms_head + octets_for n)
    → unused ≡ 8 * (len - bms_head) - n → at + len ≤ length d
    → (o₁ o₂ : List ℕ) → o₁ ≡ placed d at (laid (bms_fields len unused 0) [])
    → o₂ ≡ marks_put marks n o₁ (at + bms_head) (len - bms_head)
    → o₂ ≡ placed d at (bms_of Carried (mark_of marks) n)
unfolding bms_of
carried-placed d marks at n len unused e u h o₁ o₂ e₁ e₂ =
    let F = bms_fields len unused 0 in
    let f = bits_in 1 (tab (mark_of marks) n) in
    let R = runs f 0 8 (len - bms_head) in
    let r : length R ≡ len - bms_head = length_runs f 0 8 (len - bms_head) in
    let p : length (laid F []) ≡ 6 = laid-length F [] in
    let l : length o₁ ≡ length d = ap length e₁ ∙ length-placed d at (laid F []) (omega arith) in
    two-placed d at (laid F []) R [] (at + bms_head) (at + bms_head + length R) (ap (λ (x : ℕ). at + x) (sym p)) refl
    (omega arith) o₁ o₂ e₁
    (e₂ ∙ put-fits marks o₁ n (at + bms_head) (len - bms_head) (omega arith))
    ∙ ap (placed d at) (sym (laid-rest F R))
    ∙ ap₂ (λ (x y : ℕ). placed d at (laid (bms_fields x y 0) (runs f 0 8 (x - bms_head)))) e
    (u ∙ ap (λ (x : ℕ). 8 * (x - bms_head) - n) e)

-- the front of a message
pub front-placed : (d pds : List ℕ) (form : Form) (present : ℕ → ℕ) (n len b : ℕ)
    → front_room (length pds) form n ≤ length d
    → b ≡ 8 + length pds + gds_room form.grid → (o₁ o₂ o₃ o₄ : List ℕ)
    → o₁ ≡ placed d 0 (laid (indicator_fields len) []) → o₂ ≡ placed o₁ 8 pds
    → o₃ ≡ placed o₂ (8 + length pds) (gds_for form.grid) → o₄ ≡ placed o₃ b (bms_of form.bitmap present n)
    → o₄ ≡ placed d 0 (front_by pds form present n len)
unfolding front_room front_by
front-placed d pds form present n len b h e o₁ o₂ o₃ o₄ e₁ e₂ e₃ e₄ =
    let I = laid (indicator_fields len) [] in
    let G = gds_for form.grid in
    let M = bms_of form.bitmap present n in
    let i : length I ≡ 8 = laid-length (indicator_fields len) [] in
    let g : length G ≡ gds_room form.grid = gds-room form.grid in
    let m : length M ≡ the_bms_room form.bitmap n = bms-room form.bitmap present n in
    let l : length (I ++ (pds ++ G)) ≡ length I + (length pds + length G) = length-append I (pds ++ G) ∙ ap (λ (x : ℕ). length I + x) (length-append pds G) in
    two-placed d 0 (I ++ (pds ++ G)) M [] b (b + length M) (omega arith) refl (omega arith) o₃ o₄
    (three-placed d 0 I pds G 8 (8 + length pds) (omega arith) refl (omega arith) o₁ o₂ o₃ e₁ e₂ e₃) e₄
    ∙ ap (placed d 0)
    (append_assoc I (pds ++ G) M ∙ ap (λ (x : List ℕ). I ++ x) (append_assoc pds G M)
    ∙ sym (laid-rest (indicator_fields len) (pds ++ (G ++ M))))

-- how long that front is, and what stands in a data section before its data; with the data they make the section
pub front_length : (pds : List ℕ) (form : Form) (present : ℕ → ℕ) (n len : ℕ)
    → length (front_by pds form present n len) ≡ front_room (length pds) form n
unfolding front_by front_room
front_length pds form present n len =
    let G = gds_for form.grid in
    let M = bms_of form.bitmap present n in
    laid-length (indicator_fields len) (pds ++ (G ++ M))
    ∙ ap (λ (x : ℕ). 8 + x)
    (length-append pds (G ++ M)
    ∙ ap (λ (x : ℕ). length pds + x)
    (length-append G M ∙ ap₂ (λ (x y : ℕ). x + y) (gds-room form.grid) (bms-room form.bitmap present n)))

pub head_length : (packing : Packing) (scale : Scale) (m : ℕ) → length (head_by packing scale m) ≡ bds_head
unfolding head_by
head_length packing scale m =
    let len = the_bds_room packing.bits m in
    laid-length
    (scale_fields len (packing.flags * 16 + (8 * (len - bds_head) - m * packing.bits)) scale.e scale.r
    packing.bits) []

pub head_data : (packing : Packing) (scale : Scale) (xs : List ℕ) (m : ℕ) → m ≡ length xs
    → head_by packing scale m ++ runs (bits_in packing.bits xs) 0 8 (the_bds_room packing.bits m - bds_head)
    ≡ bds_of packing scale xs
unfolding head_by bds_of the_bds_room
head_data packing scale xs m e =
    ap (λ (k : ℕ). head_by packing scale k ++ runs (bits_in packing.bits xs) 0 8 (the_bds_room packing.bits k - bds_head))
    e
    ∙ sym (laid-rest
    (scale_fields (the_bds_room packing.bits (length xs))
    (packing.flags * 16 + (8 * (the_bds_room packing.bits (length xs) - bds_head) - length xs * packing.bits))
    scale.e scale.r packing.bits) _)

-- it laid down, and the last octet of the section cleared
pub head_placed : (d : List ℕ) (packing : Packing) (scale : Scale) (at m len flags : ℕ)
    → len ≡ the_bds_room packing.bits m → 1 ≤ len
    → flags ≡ packing.flags * 16 + (8 * (len - bds_head) - m * packing.bits) → (o₁ o₂ : List ℕ) → length o₁ ≡ length d
    → at + len ≤ length d
    → o₁ ≡ placed d at (laid (scale_fields len flags scale.e scale.r packing.bits) [])
    → o₂ ≡ the_put_number o₁ (at + (len - 1)) 1 1 0
    → o₂ ≡ placed (placed d at (head_by packing scale m)) (at + (the_bds_room packing.bits m - 1)) (octets 1 0)
unfolding head_by
head_placed d packing scale at m len flags el one ef o₁ o₂ lo room e₁ e₂ =
    number_put o₁ o₂ (at + (len - 1)) 1 0 (omega arith) (omega arith) e₂ ∙ number-placed o₁ (at + (len - 1)) 1 0
    ∙ ap (λ (x : List ℕ). placed x (at + (len - 1)) (octets 1 0))
    (e₁ ∙ ap (λ (x : ℕ). placed d at (laid (scale_fields len x scale.e scale.r packing.bits) [])) ef)
    ∙ ap (λ (k : ℕ). placed
    (placed d at
    (laid (scale_fields k (packing.flags * 16 + (8 * (k - bds_head) - m * packing.bits)) scale.e scale.r
    packing.bits) [])) (at + (k - 1)) (octets 1 0)) el
