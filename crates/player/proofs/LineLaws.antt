-- Numbers in decimal, one behind the other.
-- Assumes nothing.
use mathlib.Core.Path.{◌≡◌, sym, ap, subst, ◌∙◌}
use mathlib.Core.List.{List, [], ◌∷◌, ◌++◌, append_assoc}
use Prim.Native.Nat.{ℕ, ◌+◌, ◌-◌, ◌*◌, ◌^◌, ◌≤◌, ◌<◌}
use native.Mathlib.Nat.{pow-le-pow_right}
use native.Mathlib.Numerals.{add-one}
use Rattle.std.proofs.Common.{zero-add}
use Rattle.std.proofs.lemmas.Grind.{common_steps}
use native.Mathlib.Omega.{arith}
use native.Mathlib.Decide.{dec_le}
use lib.ListN.{length, take, drop, set, get_or, length-append}
use lib.Seq.{take-suc}
use borrow.Rule.Slice.PartMut.{mid_of, put_mid}
use Rattle.io.specs.Digits.{last_digits, IsDigitCount}
use Rattle.guest.specs.Prog.{splice}
use Rattle.guest.proofs.SpliceLaws.{splice_sets, splice_length, splice_parts}
use Rattle.guest.proofs.WordLaws.{splice_join}
use Rattle.guest.proofs.LentLaws.{lent}
use Rattle.player.specs.Lines.{Spaced, one, more, PutsNumber, PutsLine}

-- a number below 2 ^ 64 takes at most 20 digits
pub few_digits : (n r : ℕ) → n < 2 ^ 64 → IsDigitCount 10 1 n r → r ≤ 20
few_digits n r h f = by (dec_le r 20)
  where
    by : Dec (r ≤ 20) → r ≤ 20
    by (yes l) = l
    by (no l) =
        let p : 10 ^ 20 ≤ 10 ^ (r - 1) = pow-le-pow_right {n = 10} (omega arith) {i = 20} {j = r - 1} (omega arith) in
        let q : 10 ^ (r - 1) ≤ n = f.2 (omega arith) in
        absurd (omega (arith, p, q, h))

-- a number's digits were put before what stays of l
pub puts_number : (n : ℕ) (l : List ℕ) (r : ℕ) (ds : List ℕ) → n < 2 ^ 64 → 20 ≤ length l → IsDigitCount 10 1 n r → r ≡ length ds → ds ≡ last_digits 10 r n
    → PutsNumber n l r (ds ++ drop r l)
puts_number n l r ds h w f k d =
    let few : r ≤ 20 = few_digits n r h f in
    record {
      few = few;
      bytes = ds;
      decimal = record { count = r; fewest = f; spelt = d };
      count = k;
      text = ap (λ (j : ℕ). ds ++ drop j l) (k ∙ sym (zero-add (length ds))) ∙ sym (splice_parts l 0 ds (omega arith));
    }

-- bytes behind those that stand at the start
behind : (l l' bs cs : List ℕ) {end : ℕ} → l' ≡ splice l 0 bs → end ≡ length bs → splice l' end cs ≡ splice l 0 (bs ++ cs)
behind l l' bs cs {end} e k =
    let n : end ≡ 0 + length bs = omega arith in
    (λ i. splice (e i) (n i) cs) ∙ splice_join l 0 bs cs

-- the first i numbers stand at the start of l', which was l, and end at `end`
pub record Lining (ns l : List ℕ) (end i : ℕ) (l' : List ℕ) : Type 0 where
  pub wide : 168 ≤ length l
  pub low : 1 ≤ i
  pub high : i ≤ 8
  pub few : end + 1 ≤ 21 * i
  pub size : length l' ≡ length l
  pub bytes : List ℕ
  pub spaced : Spaced (take i ns) bytes
  pub count : end ≡ length bytes
  pub text : l' ≡ splice l 0 bytes

-- among the first m numbers behind the first one
pub number_behind : (m : ℕ) (ns : List ℕ) (k : ℕ) → k < length (take m (drop 1 ns)) → get_or (take m (drop 1 ns)) k 0 ≡ get_or ns (k + 1) 0
number_behind m ns k h = grind (arith, common_steps)

pub count_behind : (m : ℕ) (ns : List ℕ) → 8 ≤ length ns → m ≤ 7 → length (take m (drop 1 ns)) ≡ m
count_behind m ns h w = grind (arith, common_steps)

pub lining_begins : {ns l : List ℕ} {r : ℕ} {l' : List ℕ} → 168 ≤ length l → 8 ≤ length ns → PutsNumber (get_or ns 0 0) l r l' → Lining ns l r 1 l'
lining_begins {ns} {l} w h p =
    let first : take 1 ns ≡ get_or ns 0 0 ∷ [] = take-suc ns 0 0 (omega arith) in
    record {
      wide = w;
      low = omega arith;
      high = omega arith;
      few = omega (arith, p.few);
      size = ap (λ (x : List ℕ). length x) p.text ∙ splice_length l 0 p.bytes;
      bytes = p.bytes;
      spaced = rw first (one p.decimal);
      count = p.count;
      text = p.text;
    }

module _ {ns l : List ℕ} {end i : ℕ} {l' : List ℕ} (g : Lining ns l end i l') where
  -- a byte more
  ended : (b : ℕ) → set l' end b ≡ splice l 0 (g.bytes ++ (b ∷ []))
  ended b = sym (splice_sets l' end (b ∷ [])) ∙ behind l l' g.bytes (b ∷ []) g.text g.count

  -- a space and number i, which is x
  pub lining_goes : i < 8 → 8 ≤ length ns → (x : ℕ) → x ≡ get_or ns i 0 → {r : ℕ} {ys : List ℕ} (s : List ℕ) → s ≡ set l' end 32
      → PutsNumber x (mid_of (end + 1) (length s - (end + 1)) s) r ys
      → Lining ns l (end + 1 + r) (i + 1) (put_mid (end + 1) (length s - (end + 1)) s ys)
  lining_goes h k x f {r} {ys} s e p =
      let next : take (i + 1) ns ≡ take i ns ++ (x ∷ []) =
      ap (λ (j : ℕ). take j ns) (add-one i) ∙ take-suc ns i 0 (omega arith) ∙ ap (λ (y : ℕ). take i ns ++ (y ∷ [])) (sym f) in
      let here : s ≡ splice l 0 (g.bytes ++ (32 ∷ [])) = e ∙ ended 32 in
      let long : length (g.bytes ++ (32 ∷ [])) ≡ length g.bytes + 1 = length-append g.bytes (32 ∷ []) in
      let size : length s ≡ length l = ap (λ (x : List ℕ). length x) here ∙ splice_length l 0 (g.bytes ++ (32 ∷ [])) in
      let text : put_mid (end + 1) (length s - (end + 1)) s ys ≡ splice l 0 (g.bytes ++ (32 ∷ p.bytes)) =
      lent s (end + 1) p.bytes ys (omega (arith, g.few, g.high, g.wide)) p.text
      ∙ behind l s (g.bytes ++ (32 ∷ [])) p.bytes here (omega (arith, g.count))
      ∙ ap (splice l 0) (append_assoc g.bytes (32 ∷ []) p.bytes) in
      record {
        wide = g.wide;
        low = omega arith;
        high = omega arith;
        few = omega (arith, g.few, p.few);
        size = ap (λ (x : List ℕ). length x) text ∙ splice_length l 0 (g.bytes ++ (32 ∷ p.bytes));
        bytes = g.bytes ++ (32 ∷ p.bytes);
        spaced = rw next (more g.spaced p.decimal);
        count = omega (arith, g.count, p.count, length-append g.bytes (32 ∷ p.bytes));
        text = text;
      }

  -- the newline
  pub lining_ends : 8 ≤ i → PutsLine ns l (end + 1) (set l' end 10)
  lining_ends h =
      let all : i ≡ 8 = omega (arith, g.high) in
      record {
        few = omega (arith, g.few);
        bytes = g.bytes;
        spaced = subst (λ (j : ℕ). Spaced (take j ns) g.bytes) all g.spaced;
        count = ap (λ (k : ℕ). k + 1) g.count;
        text = ended 10;
      }

-- a line that was put into the part from a on leaves the length
pub line_length : (l : List ℕ) (a : ℕ) {ns : List ℕ} {r : ℕ} {ys : List ℕ} → a ≤ length l → PutsLine ns (mid_of a (length l - a) l) r ys
    → length (put_mid a (length l - a) l ys) ≡ length l
line_length l a {ys = ys} h p =
    ap (λ (x : List ℕ). length x) (lent l a (p.bytes ++ (10 ∷ [])) ys h p.text) ∙ splice_length l a (p.bytes ++ (10 ∷ []))
