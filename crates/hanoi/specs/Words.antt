-- The words and signs of the subset.
pub data Word : Type 0 where
  Hoa : Word
  V1 : Word
  States : Word
  Start : Word
  Ap : Word
  Acceptance : Word
  Yes : Word
  No : Word
  Inf : Word
  Fin : Word
  Opens : Word
  Closes : Word
  And : Word
  Or : Word
  Body : Word
  State : Word
  Left : Word
  Right : Word
  End : Word
