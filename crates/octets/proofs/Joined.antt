-- What a buffer holds after one piece and then another.
use Rattle.std.proofs.Common.{◌≡◌, ℕ, zero, suc, ◌+◌, ◌-◌, ◌<◌, ◌≤◌, min, List, [], ◌∷◌, ◌++◌, length, take, drop, replicate, sym, refl, ap, ◌∙◌, ⊎_elim, append_assoc, arith}
use Rattle.std.proofs.lemmas.List.{append-nil, length-append, length-drop, take_all, take-append-le, length-take-le, take_min, drop_all, drop-replicate}
use Rattle.std.proofs.Math.Nat.{sub-add-eq}
use Rattle.std.proofs.Math.Seq.{take-append-add, drop-drop}
use Rattle.std.proofs.lemmas.Bool.{cases_lt}
use Rattle.octets.specs.Buffers.{joined, laid_over}

take_twice : (n : ℕ) (xs ys : List ℕ) → take n (take n xs ++ ys) ≡ take n (xs ++ ys)
take_twice zero xs ys = refl
take_twice (suc n) [] ys = refl
take_twice (suc n) (x ∷ xs) ys = ap (λ t. x ∷ t) (take_twice n xs ys)

-- where there is room, the piece stands behind what was held
pub joined_all : (xs ys : List ℕ) → length xs + length ys ≤ 112 → joined xs ys ≡ xs ++ ys
unfolding joined
joined_all xs ys room = take_all 112 (xs ++ ys) (simp length-append room)

-- where there is none, nothing changes
pub joined_full : (xs ys : List ℕ) → length xs ≡ 112 → joined xs ys ≡ xs
unfolding joined
joined_full xs ys full = take-append-le 112 xs ys (omega arith) ∙ take_all 112 xs (omega arith)

-- where there is room for a part, a front of the piece does
pub joined_front : (xs ys : List ℕ) (room n : ℕ) → room + length xs ≡ 112 → n ≡ min (length ys) room → xs ++ take n ys ≡ joined xs ys
unfolding joined
joined_front xs ys room n whole least =
    let same : n ≡ min room (length ys) = omega arith in
    let all : 112 ≡ length xs + room = omega arith in
    ap (λ k. xs ++ take k ys) same ∙ ap (λ f. xs ++ f) (take_min room ys)
    ∙ sym (take-append-add xs ys room) ∙ ap (λ k. take k (xs ++ ys)) (sym all)

-- one piece and then another are both in a row
pub joined_joined : (xs ys zs : List ℕ) → joined (joined xs ys) zs ≡ joined xs (ys ++ zs)
unfolding joined
joined_joined xs ys zs = take_twice 112 (xs ++ ys) zs ∙ ap (take 112) (append_assoc xs ys zs)

-- four pieces, one behind the other
pub joined_four : (before one two three four x y z w : List ℕ) → one ≡ joined before x → two ≡ joined one y → three ≡ joined two z → four ≡ joined three w → four ≡ joined before (x ++ (y ++ (z ++ w)))
joined_four before one two three four x y z w a b c d =
    d ∙ ap (λ (h : List ℕ). joined h w) (c ∙ ap (λ (h : List ℕ). joined h z) b) ∙ ap (λ (h : List ℕ). joined (joined (joined h y) z) w) a
    ∙ joined_joined (joined (joined before x) y) z w ∙ joined_joined (joined before x) y (z ++ w) ∙ joined_joined before x (y ++ (z ++ w))

-- a piece is laid over bytes of its length or more
pub laid_whole : (front bytes : List ℕ) → length front ≤ length bytes → laid_over front bytes ≡ front ++ drop (length front) bytes
unfolding laid_over
laid_whole front bytes room =
    take_all (length bytes) (front ++ drop (length front) bytes) (simp (length-append, length-drop) (omega arith))

-- The same for a piece that is longer, of which only a front is written.
pub laid_front : (front out : List ℕ) (n : ℕ) → n ≡ min (length front) (length out) → take n front ++ drop n out ≡ laid_over front out
unfolding laid_over
laid_front front out n least = ⊎_elim short long (cases_lt (length out) (length front))
  where
    long : length front ≤ length out → take n front ++ drop n out ≡ laid_over front out
    long room =
        let same : n ≡ length front = omega arith in
        ap (λ k. take k front ++ drop k out) same ∙ ap (λ f. f ++ drop (length front) out) (take_all (length front) front (omega arith))
        ∙ sym (laid_whole front out room)

    short : length out < length front → take n front ++ drop n out ≡ laid_over front out
    short over =
        let same : n ≡ length out = omega arith in
        ap (λ k. take k front ++ drop k out) same ∙ ap (λ d. take (length out) front ++ d) (drop_all (length out) out (omega arith))
        ∙ append-nil (take (length out) front)
        ∙ sym (take-append-le (length out) front (drop (length front) out) (omega arith))

-- as many bytes are held as are counted
pub held_length : (bytes : List ℕ) (count : ℕ) → count ≤ 112 → length bytes ≡ 112 → length (take count bytes) ≡ count
held_length bytes count room whole = length-take-le count bytes (omega arith)

-- where the places behind what is held are 0, those further on are
pub zeros_behind : (bytes : List ℕ) (count more : ℕ) → drop count bytes ≡ replicate (112 - count) 0 → drop (count + more) bytes ≡ replicate (112 - (count + more)) 0
zeros_behind bytes count more zeros =
    sym (drop-drop more count bytes) ∙ ap (drop more) zeros ∙ drop-replicate more (112 - count) 0 ∙ ap (λ n. replicate n 0) (sym (sub-add-eq 112 count more))
