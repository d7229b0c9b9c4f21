mod Numbers
mod Bytes
