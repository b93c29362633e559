-- Code pages. A letter is its number in Unicode.
use Rattle.std.specs.Prelude.{ℕ, ◌-◌, nat_lt, List, [], ◌∷◌, map, slice_index, if◌then◌else◌}
use Rattle.std.specs.Char.{encode_utf8}
use Rattle.code_pages.specs.declared.pages.CodePage.{CodePage}
use Rattle.code_pages.specs.declared.pages.CodePage.TheVariants.{Cp437, Cp850}

-- the letters of the bytes from 128 on in page 437, sixteen in a line
abbrev pub upper_437 : List ℕ
upper_437 =
    199 ∷ 252 ∷ 233 ∷ 226 ∷ 228 ∷ 224 ∷ 229 ∷ 231 ∷ 234 ∷ 235 ∷ 232 ∷ 239 ∷ 238 ∷ 236 ∷ 196 ∷ 197 ∷
    201 ∷ 230 ∷ 198 ∷ 244 ∷ 246 ∷ 242 ∷ 251 ∷ 249 ∷ 255 ∷ 214 ∷ 220 ∷ 162 ∷ 163 ∷ 165 ∷ 8359 ∷ 402 ∷
    225 ∷ 237 ∷ 243 ∷ 250 ∷ 241 ∷ 209 ∷ 170 ∷ 186 ∷ 191 ∷ 8976 ∷ 172 ∷ 189 ∷ 188 ∷ 161 ∷ 171 ∷ 187 ∷
    9617 ∷ 9618 ∷ 9619 ∷ 9474 ∷ 9508 ∷ 9569 ∷ 9570 ∷ 9558 ∷ 9557 ∷ 9571 ∷ 9553 ∷ 9559 ∷ 9565 ∷ 9564 ∷ 9563 ∷ 9488 ∷
    9492 ∷ 9524 ∷ 9516 ∷ 9500 ∷ 9472 ∷ 9532 ∷ 9566 ∷ 9567 ∷ 9562 ∷ 9556 ∷ 9577 ∷ 9574 ∷ 9568 ∷ 9552 ∷ 9580 ∷ 9575 ∷
    9576 ∷ 9572 ∷ 9573 ∷ 9561 ∷ 9560 ∷ 9554 ∷ 9555 ∷ 9579 ∷ 9578 ∷ 9496 ∷ 9484 ∷ 9608 ∷ 9604 ∷ 9612 ∷ 9616 ∷ 9600 ∷
    945 ∷ 223 ∷ 915 ∷ 960 ∷ 931 ∷ 963 ∷ 181 ∷ 964 ∷ 934 ∷ 920 ∷ 937 ∷ 948 ∷ 8734 ∷ 966 ∷ 949 ∷ 8745 ∷
    8801 ∷ 177 ∷ 8805 ∷ 8804 ∷ 8992 ∷ 8993 ∷ 247 ∷ 8776 ∷ 176 ∷ 8729 ∷ 183 ∷ 8730 ∷ 8319 ∷ 178 ∷ 9632 ∷ 160 ∷ []

-- the same in page 850
abbrev pub upper_850 : List ℕ
upper_850 =
    199 ∷ 252 ∷ 233 ∷ 226 ∷ 228 ∷ 224 ∷ 229 ∷ 231 ∷ 234 ∷ 235 ∷ 232 ∷ 239 ∷ 238 ∷ 236 ∷ 196 ∷ 197 ∷
    201 ∷ 230 ∷ 198 ∷ 244 ∷ 246 ∷ 242 ∷ 251 ∷ 249 ∷ 255 ∷ 214 ∷ 220 ∷ 248 ∷ 163 ∷ 216 ∷ 215 ∷ 402 ∷
    225 ∷ 237 ∷ 243 ∷ 250 ∷ 241 ∷ 209 ∷ 170 ∷ 186 ∷ 191 ∷ 174 ∷ 172 ∷ 189 ∷ 188 ∷ 161 ∷ 171 ∷ 187 ∷
    9617 ∷ 9618 ∷ 9619 ∷ 9474 ∷ 9508 ∷ 193 ∷ 194 ∷ 192 ∷ 169 ∷ 9571 ∷ 9553 ∷ 9559 ∷ 9565 ∷ 162 ∷ 165 ∷ 9488 ∷
    9492 ∷ 9524 ∷ 9516 ∷ 9500 ∷ 9472 ∷ 9532 ∷ 227 ∷ 195 ∷ 9562 ∷ 9556 ∷ 9577 ∷ 9574 ∷ 9568 ∷ 9552 ∷ 9580 ∷ 164 ∷
    240 ∷ 208 ∷ 202 ∷ 203 ∷ 200 ∷ 305 ∷ 205 ∷ 206 ∷ 207 ∷ 9496 ∷ 9484 ∷ 9608 ∷ 9604 ∷ 166 ∷ 204 ∷ 9600 ∷
    211 ∷ 223 ∷ 212 ∷ 210 ∷ 245 ∷ 213 ∷ 181 ∷ 254 ∷ 222 ∷ 218 ∷ 219 ∷ 217 ∷ 253 ∷ 221 ∷ 175 ∷ 180 ∷
    173 ∷ 177 ∷ 8215 ∷ 190 ∷ 182 ∷ 167 ∷ 247 ∷ 184 ∷ 176 ∷ 168 ∷ 183 ∷ 185 ∷ 179 ∷ 178 ∷ 9632 ∷ 160 ∷ []

abbrev pub upper : CodePage → List ℕ
upper Cp437 = upper_437
upper Cp850 = upper_850

-- the letter of a byte: below 128 it is ASCII
abbrev pub page_letter : CodePage → ℕ → ℕ
page_letter page byte = if nat_lt byte 128 then byte else slice_index (upper page) (byte - 128)

abbrev pub utf8_of : CodePage → ℕ → List ℕ
utf8_of page byte = encode_utf8 (page_letter page byte)

-- a text in the page as letters
abbrev pub page_letters : CodePage → List ℕ → List ℕ
page_letters page text = map (page_letter page) text
