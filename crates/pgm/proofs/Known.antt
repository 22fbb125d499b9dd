-- Headers and what they come to, computed from the definition.
-- Assumes nothing.
use mathlib.Core.Path.{◌≡◌, refl}
use mathlib.Core.List.{[], ◌∷◌}
use Rattle.plane.specs.Plane.{measured}
use Rattle.pgm.specs.Header.{Header, Refused, is_space, is_digit, in_comment, bare, starts_with, after, value, digits, number, field, verdict, whole, delimiter, exactly, header, header_of}

pub record KnownHeaders : Type 0 where
  -- plain: `P5\n3 2\n255\n`
  pub plain : header_of (80 ∷ 53 ∷ 10 ∷ 51 ∷ 32 ∷ 50 ∷ 10 ∷ 50 ∷ 53 ∷ 53 ∷ 10 ∷ []) ≡ Header 3 2 11
  -- bytes that follow: `P5 3 2 255 #x`
  pub followed : header_of (80 ∷ 53 ∷ 32 ∷ 51 ∷ 32 ∷ 50 ∷ 32 ∷ 50 ∷ 53 ∷ 53 ∷ 32 ∷ 35 ∷ 120 ∷ []) ≡ Header 3 2 11
  -- any white space, CR LF among it: `P5\t3\r2\r\n255\n`
  pub any-space : header_of (80 ∷ 53 ∷ 9 ∷ 51 ∷ 13 ∷ 50 ∷ 13 ∷ 10 ∷ 50 ∷ 53 ∷ 53 ∷ 10 ∷ []) ≡ Header 3 2 12
  -- of CR LF behind the maxval the CR is the delimiter: `P5 3 2 255\r\n`
  pub cr-lf : header_of (80 ∷ 53 ∷ 32 ∷ 51 ∷ 32 ∷ 50 ∷ 32 ∷ 50 ∷ 53 ∷ 53 ∷ 13 ∷ 10 ∷ []) ≡ Header 3 2 11
  -- comments in the magic number and in numbers: `P#\n5 1#a\n2 3 2#b\r55\n`
  pub comments : header_of (80 ∷ 35 ∷ 10 ∷ 53 ∷ 32 ∷ 49 ∷ 35 ∷ 97 ∷ 10 ∷ 50 ∷ 32 ∷ 51 ∷ 32 ∷ 50 ∷ 35 ∷ 98 ∷ 13 ∷ 53 ∷ 53 ∷ 10 ∷ []) ≡ Header 12 3 20
  -- a comment behind the maxval, and the delimiter: `P5 3 2 255#c\n\n`
  pub comment-behind : header_of (80 ∷ 53 ∷ 32 ∷ 51 ∷ 32 ∷ 50 ∷ 32 ∷ 50 ∷ 53 ∷ 53 ∷ 35 ∷ 99 ∷ 10 ∷ 10 ∷ []) ≡ Header 3 2 14
  -- leading zeros: `P5 003 02 0255\n`
  pub zeros : header_of (80 ∷ 53 ∷ 32 ∷ 48 ∷ 48 ∷ 51 ∷ 32 ∷ 48 ∷ 50 ∷ 32 ∷ 48 ∷ 50 ∷ 53 ∷ 53 ∷ 10 ∷ []) ≡ Header 3 2 15
  -- the largest: `P5 4096 1 255\n`
  pub largest : header_of (80 ∷ 53 ∷ 32 ∷ 52 ∷ 48 ∷ 57 ∷ 54 ∷ 32 ∷ 49 ∷ 32 ∷ 50 ∷ 53 ∷ 53 ∷ 10 ∷ []) ≡ Header 4096 1 14
  -- a comment's newline is no white space: `P5#c\n9 2 255\n`
  pub comment-no-space : header_of (80 ∷ 53 ∷ 35 ∷ 99 ∷ 10 ∷ 57 ∷ 32 ∷ 50 ∷ 32 ∷ 50 ∷ 53 ∷ 53 ∷ 10 ∷ []) ≡ Refused 10
  -- and no delimiter: `P5 3 2 255#c\n`
  pub comment-no-delimiter : header_of (80 ∷ 53 ∷ 32 ∷ 51 ∷ 32 ∷ 50 ∷ 32 ∷ 50 ∷ 53 ∷ 53 ∷ 35 ∷ 99 ∷ 10 ∷ []) ≡ Refused 10
  -- of CR LF the CR ends the comment, and the LF is white space: `P5#c\r\n9 2 255\n`
  pub comment-cr-lf : header_of (80 ∷ 53 ∷ 35 ∷ 99 ∷ 13 ∷ 10 ∷ 57 ∷ 32 ∷ 50 ∷ 32 ∷ 50 ∷ 53 ∷ 53 ∷ 10 ∷ []) ≡ Header 9 2 14
  -- no delimiter: `P5 3 2 255`
  pub no-delimiter : header_of (80 ∷ 53 ∷ 32 ∷ 51 ∷ 32 ∷ 50 ∷ 32 ∷ 50 ∷ 53 ∷ 53 ∷ []) ≡ Refused 10
  -- maxval 2550: `P5 3 2 2550\n`
  pub maxval-2550 : header_of (80 ∷ 53 ∷ 32 ∷ 51 ∷ 32 ∷ 50 ∷ 32 ∷ 50 ∷ 53 ∷ 53 ∷ 48 ∷ 10 ∷ []) ≡ Refused 10
  -- a vertical tab: `P5\v3 2 255\n`
  pub vertical-tab : header_of (80 ∷ 53 ∷ 11 ∷ 51 ∷ 32 ∷ 50 ∷ 32 ∷ 50 ∷ 53 ∷ 53 ∷ 10 ∷ []) ≡ Refused 10
  -- a sign: `P5 +3 2 255\n`
  pub sign : header_of (80 ∷ 53 ∷ 32 ∷ 43 ∷ 51 ∷ 32 ∷ 50 ∷ 32 ∷ 50 ∷ 53 ∷ 53 ∷ 10 ∷ []) ≡ Refused 10
  -- 10 before 8: `P5 0 2 254\n`
  pub ten-first : header_of (80 ∷ 53 ∷ 32 ∷ 48 ∷ 32 ∷ 50 ∷ 32 ∷ 50 ∷ 53 ∷ 52 ∷ 10 ∷ []) ≡ Refused 10
  -- width 0: `P5 0 2 255\n`
  pub width-0 : header_of (80 ∷ 53 ∷ 32 ∷ 48 ∷ 32 ∷ 50 ∷ 32 ∷ 50 ∷ 53 ∷ 53 ∷ 10 ∷ []) ≡ Refused 8
  -- height 4097: `P5 3 4097 255\n`
  pub height-4097 : header_of (80 ∷ 53 ∷ 32 ∷ 51 ∷ 32 ∷ 52 ∷ 48 ∷ 57 ∷ 55 ∷ 32 ∷ 50 ∷ 53 ∷ 53 ∷ 10 ∷ []) ≡ Refused 8
  -- a width of twenty digits: `P5 99999999999999999999 2 255\n`
  pub twenty-digits : header_of (80 ∷ 53 ∷ 32 ∷ 57 ∷ 57 ∷ 57 ∷ 57 ∷ 57 ∷ 57 ∷ 57 ∷ 57 ∷ 57 ∷ 57 ∷ 57 ∷ 57 ∷ 57 ∷ 57 ∷ 57 ∷ 57 ∷ 57 ∷ 57 ∷ 57 ∷ 57 ∷ 32 ∷ 50 ∷ 32 ∷ 50 ∷ 53 ∷ 53 ∷ 10 ∷ []) ≡ Refused 8
  -- no byte
  pub empty : header_of ([]) ≡ Refused 10

pub known-headers : KnownHeaders
unfolding header_of header exactly field number digits value after starts_with bare in_comment is_space is_digit delimiter whole verdict measured
known-headers =
    record {
      plain = refl;
      followed = refl;
      any-space = refl;
      cr-lf = refl;
      comments = refl;
      comment-behind = refl;
      zeros = refl;
      largest = refl;
      comment-no-space = refl;
      comment-no-delimiter = refl;
      comment-cr-lf = refl;
      no-delimiter = refl;
      maxval-2550 = refl;
      vertical-tab = refl;
      sign = refl;
      ten-first = refl;
      width-0 = refl;
      height-4097 = refl;
      twenty-digits = refl;
      empty = refl;
    }
