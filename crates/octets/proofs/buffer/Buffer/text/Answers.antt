use borrow.Rule.Slice.PartMut.{same_len_mid}
use Rattle.std.proofs.Common.{◌≡◌, ℕ, ◌+◌, ◌-◌, ◌++◌, min, List, length, take, ap, ◌∙◌, arith}
use Rattle.std.proofs.lemmas.List.{length-take-le}
use Rattle.std.proofs.lemmas.Slice.{take-put_mid, drop-put_mid}
use Rattle.octets.specs.Buffers.{joined}
use Rattle.octets.proofs.Joined.{joined_front, held_length, zeros_behind}
use Rattle.octets.proofs.buffer.Buffer.text.Goals as goal

-- the front that is copied is as long as it should be
copied : (bytes part : List ℕ) (n room : ℕ) → part ≡ take n bytes → n ≡ min (length bytes) room → length part ≡ n
copied bytes part n room is least = ap length is ∙ length-take-le n bytes (omega arith)

pub invariant_of-self : goal.invariant_of-self
invariant_of-self c =
    let self = c.self.inside in
    let n = c.min-n.result in
    let part = c.copy_from_slice.new.self in
    let long = copied c.args.bytes.now part n (112 - self.count) c.copy_from_slice.ensures.after c.min-n.ensures in (
      omega (arith, c.min-n.ensures, c.self.invariant.0),
      same_len_mid self.count (self.count + n - self.count) self.bytes part c.copy_from_slice.ensures.len ∙ c.self.invariant.1,
      drop-put_mid self.count (self.count + n - self.count) self.bytes part (self.count + n) (omega arith) (omega (arith, c.self.invariant.0, c.self.invariant.1)) (omega (arith, long))
          ∙ zeros_behind self.bytes self.count n c.self.invariant.2,
    )

pub returns : goal.returns
returns c =
    let self = c.self.inside in
    let n = c.min-n.result in
    let bytes = c.args.bytes.now in
    let part = c.copy_from_slice.new.self in
    let held = take self.count self.bytes in
    let long = copied bytes part n (112 - self.count) c.copy_from_slice.ensures.after c.min-n.ensures in
    let few = held_length self.bytes self.count c.self.invariant.0 c.self.invariant.1 in
    take-put_mid self.count (self.count + n - self.count) self.bytes part (self.count + n) (omega (arith, long)) (omega (arith, c.self.invariant.0, c.self.invariant.1))
    ∙ ap (λ front. held ++ front) c.copy_from_slice.ensures.after
    ∙ joined_front held bytes (112 - self.count) n (omega (arith, few, c.self.invariant.0)) c.min-n.ensures
    ∙ ap (λ held. joined held bytes) c.self.view_is
